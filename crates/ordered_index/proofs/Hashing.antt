-- HashedIndex: where a pair stands, and what the change of one of them does to all.
use Rattle.std.proofs.Common.{◌≡◌, ℕ, zero, suc, ◌+◌, ◌<◌, ◌≤◌, ◌∙◌, ◌&&◌, ◌||◌, Bool, List, [], ◌∷◌, ◌++◌, Option, Some, None, true, false, ap, refl, sym, subst, length, get_or, set, leb, min, arith, length-append}
use Rattle.std.proofs.lemmas.Bool.Decides.{nat_tests}
use Rattle.std.specs.Prelude.{not}
use Rattle.std.specs.List.{AllByRecursion}
use Rattle.ordered_index.specs.Hashed.{lower, pairs_of, AreApart, AreBuckets, IsBucket}
use Rattle.ordered_index.specs.Ordered.{Pair, OrderedIndex, is_in, is_pair, IsNextOf}
use Rattle.ordered_index.proofs.Ordering.{pair_only}

-- ---- where a pair stands

-- a choice of three
or_assoc : (a b c : Bool) → (a || (b || c)) ≡ ((a || b) || c)
or_assoc true b c = refl
or_assoc false b c = refl

-- either way round
pub or_back : (a b : Bool) → (a || b) ≡ (b || a)
or_back true true = refl
or_back true false = refl
or_back false true = refl
or_back false false = refl

-- what is in two lists
pub in-append : (p : Pair) (xs ys : List Pair) → is_in p (xs ++ ys) ≡ (is_in p xs || is_in p ys)
in-append p [] ys = refl
in-append p (x ∷ xs) ys = ap (λ (b : Bool). is_pair p x || b) (in-append p xs ys) ∙ or_assoc (is_pair p x) (is_in p xs) (is_in p ys)

-- a pair that belongs elsewhere isn't in a bucket
not-here : (place : ℕ → ℕ) (number : ℕ) (bucket : OrderedIndex) (p : Pair) → IsBucket place number bucket → (place p.0 ≡ number → ⊥) → is_in p bucket.pairs ≡ false
not-here place number bucket p is other = go (is_in p bucket.pairs) refl
  where
    go : (b : Bool) → is_in p bucket.pairs ≡ b → b ≡ false
    go false e = refl
    go true e = absurd (other (is p e))

-- nor is one in buckets that all come after its own
not-behind : (place : ℕ → ℕ) (number : ℕ) (buckets : List OrderedIndex) (p : Pair) → AreBuckets place number buckets → place p.0 < number → is_in p (pairs_of buckets) ≡ false
not-behind place number [] p are lt = refl
not-behind place number (bucket ∷ buckets) p are lt =
    rw (in-append p bucket.pairs (pairs_of buckets), not-here place number bucket p are.0 (λ e. omega arith)) (not-behind place (suc number) buckets p are.1 (omega arith))

-- a pair is in one of the buckets if it is in its own
pub in-own : (place : ℕ → ℕ) (number : ℕ) (buckets : List OrderedIndex) (p : Pair) (i : ℕ) (d : OrderedIndex) → AreBuckets place number buckets → i < length buckets → place p.0 ≡ number + i → is_in p (pairs_of buckets) ≡ is_in p (get_or buckets i d).pairs
in-own place number [] p i d are lt e = absurd (omega arith)
in-own place number (bucket ∷ buckets) p zero d are lt e =
    in-append p bucket.pairs (pairs_of buckets)
    ∙ ap (λ (b : Bool). is_in p bucket.pairs || b) (not-behind place (suc number) buckets p are.1 (omega arith))
    ∙ or_back (is_in p bucket.pairs) false
in-own place number (bucket ∷ buckets) p (suc i) d are lt e =
    in-append p bucket.pairs (pairs_of buckets)
    ∙ ap (λ (b : Bool). b || is_in p (pairs_of buckets)) (not-here place number bucket p are.0 (λ f. omega arith))
    ∙ in-own place (suc number) buckets p i d are.1 (omega arith) (omega arith)

-- each bucket is one
pub bucket-at : (place : ℕ → ℕ) (number : ℕ) (buckets : List OrderedIndex) (i : ℕ) (d : OrderedIndex) → AreBuckets place number buckets → i < length buckets → IsBucket place (number + i) (get_or buckets i d)
bucket-at place number [] i d are lt = absurd (omega arith)
bucket-at place number (bucket ∷ buckets) zero d are lt = let e : number + 0 ≡ number = omega arith in rw e are.0
bucket-at place number (bucket ∷ buckets) (suc i) d are lt = let e : number + suc i ≡ suc number + i = omega arith in rw e (bucket-at place (suc number) buckets i d are.1 (omega arith))

-- ---- one is changed

-- all are buckets after one has come in the place of another
pub buckets-set : (place : ℕ → ℕ) (number : ℕ) (buckets : List OrderedIndex) (i : ℕ) (new : OrderedIndex) → AreBuckets place number buckets → IsBucket place (number + i) new → AreBuckets place number (set buckets i new)
buckets-set place number [] i new are is = tt
buckets-set place number (bucket ∷ buckets) zero new are is = let e : number + 0 ≡ number = omega arith in (rw e at is, are.1)
buckets-set place number (bucket ∷ buckets) (suc i) new are is = let e : number + suc i ≡ suc number + i = omega arith in (are.0, buckets-set place (suc number) buckets i new are.1 (rw e at is))

-- all have as place more as the one has
pub length-set-one : (buckets : List OrderedIndex) (i : ℕ) (d new : OrderedIndex) → i < length buckets → length (pairs_of (set buckets i new)) + length (get_or buckets i d).pairs ≡ length (pairs_of buckets) + length new.pairs
length-set-one [] i d new lt = absurd (omega arith)
length-set-one (bucket ∷ buckets) zero d new lt = omega (arith, length-append bucket.pairs (pairs_of buckets), length-append new.pairs (pairs_of buckets))
length-set-one (bucket ∷ buckets) (suc i) d new lt = omega (arith, length-append bucket.pairs (pairs_of buckets), length-append bucket.pairs (pairs_of (set buckets i new)), length-set-one buckets i d new (omega arith))

-- a choice moves past another
pub or_past : (a b c : Bool) → (a || (b || c)) ≡ (b || (a || c))
or_past true true c = refl
or_past true false c = refl
or_past false b c = refl

-- what comes into one comes into all
pub more-set : (buckets : List OrderedIndex) (i : ℕ) (d new : OrderedIndex) (p q : Pair) → i < length buckets → is_in p new.pairs ≡ (is_pair p q || is_in p (get_or buckets i d).pairs) → is_in p (pairs_of (set buckets i new)) ≡ (is_pair p q || is_in p (pairs_of buckets))
more-set [] i d new p q lt e = absurd (omega arith)
more-set (bucket ∷ buckets) zero d new p q lt e =
    in-append p new.pairs (pairs_of buckets)
    ∙ ap (λ (b : Bool). b || is_in p (pairs_of buckets)) e
    ∙ sym (or_assoc (is_pair p q) (is_in p bucket.pairs) (is_in p (pairs_of buckets)))
    ∙ ap (λ (b : Bool). is_pair p q || b) (sym (in-append p bucket.pairs (pairs_of buckets)))
more-set (bucket ∷ buckets) (suc i) d new p q lt e =
    in-append p bucket.pairs (pairs_of (set buckets i new))
    ∙ ap (λ (b : Bool). is_in p bucket.pairs || b) (more-set buckets i d new p q (omega arith) e)
    ∙ or_past (is_in p bucket.pairs) (is_pair p q) (is_in p (pairs_of buckets))
    ∙ ap (λ (b : Bool). is_pair p q || b) (sym (in-append p bucket.pairs (pairs_of buckets)))

-- a choice of two without one that neither is
not_either : (a b c : Bool) → (not a && (b || c)) ≡ ((not a && b) || (not a && c))
not_either true b c = refl
not_either false b c = refl

-- what isn't in a list stays out of it
pub stays-out : (p q : Pair) (xs : List Pair) → is_in q xs ≡ false → is_in p xs ≡ (not (is_pair p q) && is_in p xs)
stays-out p q xs e = go (is_pair p q) refl
  where
    go : (b : Bool) → is_pair p q ≡ b → is_in p xs ≡ (not b && is_in p xs)
    go true f = subst (λ (y : Pair). is_in y xs ≡ false) (sym (pair_only p q f)) e
    go false f = refl

-- what leaves its bucket leaves all
pub less-set : (place : ℕ → ℕ) (number : ℕ) (buckets : List OrderedIndex) (i : ℕ) (d new : OrderedIndex) (p q : Pair) → AreBuckets place number buckets → i < length buckets → place q.0 ≡ number + i → is_in p new.pairs ≡ (not (is_pair p q) && is_in p (get_or buckets i d).pairs) → is_in p (pairs_of (set buckets i new)) ≡ (not (is_pair p q) && is_in p (pairs_of buckets))
less-set place number [] i d new p q are lt at e = absurd (omega arith)
less-set place number (bucket ∷ buckets) zero d new p q are lt at e =
    in-append p new.pairs (pairs_of buckets)
    ∙ ap (λ (b : Bool). b || is_in p (pairs_of buckets)) e
    ∙ ap (λ (b : Bool). (not (is_pair p q) && is_in p bucket.pairs) || b) (stays-out p q (pairs_of buckets) (not-behind place (suc number) buckets q are.1 (omega arith)))
    ∙ sym (not_either (is_pair p q) (is_in p bucket.pairs) (is_in p (pairs_of buckets)))
    ∙ ap (λ (b : Bool). not (is_pair p q) && b) (sym (in-append p bucket.pairs (pairs_of buckets)))
less-set place number (bucket ∷ buckets) (suc i) d new p q are lt at e =
    in-append p bucket.pairs (pairs_of (set buckets i new))
    ∙ ap (λ (b : Bool). is_in p bucket.pairs || b) (less-set place (suc number) buckets i d new p q are.1 (omega arith) (omega arith) e)
    ∙ ap (λ (b : Bool). b || (not (is_pair p q) && is_in p (pairs_of buckets))) (stays-out p q bucket.pairs (not-here place number bucket q are.0 (λ f. omega arith)))
    ∙ sym (not_either (is_pair p q) (is_in p bucket.pairs) (is_in p (pairs_of buckets)))
    ∙ ap (λ (b : Bool). not (is_pair p q) && b) (sym (in-append p bucket.pairs (pairs_of buckets)))

-- a bucket stays one if a pair comes that belongs there
pub bucket-more : (place : ℕ → ℕ) (number : ℕ) (old new : OrderedIndex) (q : Pair) → IsBucket place number old → place q.0 ≡ number → ((p : Pair) → is_in p new.pairs ≡ (is_pair p q || is_in p old.pairs)) → IsBucket place number new
bucket-more place number old new q is at more = λ p there. go p (is_pair p q) refl (sym (more p) ∙ there)
  where
    go : (p : Pair) (b : Bool) → is_pair p q ≡ b → (b || is_in p old.pairs) ≡ true → place p.0 ≡ number
    go p true f h = subst (λ (y : Pair). place y.0 ≡ number) (sym (pair_only p q f)) at
    go p false f h = is p h

-- and if one leaves
pub bucket-less : (place : ℕ → ℕ) (number : ℕ) (old new : OrderedIndex) (q : Pair) → IsBucket place number old → ((p : Pair) → is_in p new.pairs ≡ (not (is_pair p q) && is_in p old.pairs)) → IsBucket place number new
bucket-less place number old new q is less = λ p there. go p (is_pair p q) (sym (less p) ∙ there)
  where
    go : (p : Pair) (b : Bool) → (not b && is_in p old.pairs) ≡ true → place p.0 ≡ number
    go p true h = absurd (let k = h in cc)
    go p false h = is p h

-- ---- at the start

-- empty buckets have no pairs
pub empty-pairs : (buckets : List OrderedIndex) → AllByRecursion (λ bucket. bucket.pairs ≡ []) buckets → pairs_of buckets ≡ []
empty-pairs [] all = refl
empty-pairs (bucket ∷ buckets) all = rw all.0 (empty-pairs buckets all.1)

-- and are buckets
pub empty-buckets : (place : ℕ → ℕ) (number : ℕ) (buckets : List OrderedIndex) → AllByRecursion (λ bucket. bucket.pairs ≡ []) buckets → AreBuckets place number buckets
empty-buckets place number [] all = tt
empty-buckets place number (bucket ∷ buckets) all = (λ p there. absurd (let none : is_in p [] ≡ true = subst (λ (l : List Pair). is_in p l ≡ true) all.0 there in cc), empty-buckets place (suc number) buckets all.1)

-- ---- the buckets and the rest

-- what comes into the first part comes into both
pub more-first : (p q : Pair) (xs more ys : List Pair) → is_in p more ≡ (is_pair p q || is_in p xs) → is_in p (more ++ ys) ≡ (is_pair p q || is_in p (xs ++ ys))
more-first p q xs more ys e =
    in-append p more ys
    ∙ ap (λ (b : Bool). b || is_in p ys) e
    ∙ sym (or_assoc (is_pair p q) (is_in p xs) (is_in p ys))
    ∙ ap (λ (b : Bool). is_pair p q || b) (sym (in-append p xs ys))

-- and what comes into the second
pub more-second : (p q : Pair) (xs same ys more : List Pair) → is_in p same ≡ is_in p xs → is_in p more ≡ (is_pair p q || is_in p ys) → is_in p (same ++ more) ≡ (is_pair p q || is_in p (xs ++ ys))
more-second p q xs same ys more e f =
    in-append p same more
    ∙ ap (λ (b : Bool). b || is_in p more) e
    ∙ ap (λ (b : Bool). is_in p xs || b) f
    ∙ or_past (is_in p xs) (is_pair p q) (is_in p ys)
    ∙ ap (λ (b : Bool). is_pair p q || b) (sym (in-append p xs ys))

-- what leaves both leaves them together
pub less-both : (p q : Pair) (xs fewer ys less : List Pair) → is_in p fewer ≡ (not (is_pair p q) && is_in p xs) → is_in p less ≡ (not (is_pair p q) && is_in p ys) → is_in p (fewer ++ less) ≡ (not (is_pair p q) && is_in p (xs ++ ys))
less-both p q xs fewer ys less e f =
    in-append p fewer less
    ∙ ap (λ (b : Bool). b || is_in p less) e
    ∙ ap (λ (b : Bool). (not (is_pair p q) && is_in p xs) || b) f
    ∙ sym (not_either (is_pair p q) (is_in p xs) (is_in p ys))
    ∙ ap (λ (b : Bool). not (is_pair p q) && b) (sym (in-append p xs ys))

-- what is in neither part isn't in both
pub neither : (p : Pair) (xs ys : List Pair) → is_in p (xs ++ ys) ≡ false → (is_in p xs ≡ false) × (is_in p ys ≡ false)
neither p xs ys e = go (is_in p xs) (is_in p ys) refl refl (sym (in-append p xs ys) ∙ e)
  where
    go : (a b : Bool) → is_in p xs ≡ a → is_in p ys ≡ b → (a || b) ≡ false → (is_in p xs ≡ false) × (is_in p ys ≡ false)
    go true b f g h = absurd cc
    go false true f g h = absurd cc
    go false false f g h = (f, g)

-- what isn't in the first part is in the second
pub in-second : (p : Pair) (xs ys : List Pair) → is_in p (xs ++ ys) ≡ true → is_in p xs ≡ false → is_in p ys ≡ true
in-second p xs ys e f = sym (ap (λ (b : Bool). b || is_in p ys) f) ∙ sym (in-append p xs ys) ∙ e

-- what isn't in the second part is in the first
in-first : (p : Pair) (xs ys : List Pair) → is_in p (xs ++ ys) ≡ true → is_in p ys ≡ false → is_in p xs ≡ true
in-first p xs ys e f = sym (ap (λ (b : Bool). is_in p xs || b) f ∙ or_back (is_in p xs) false) ∙ sym (in-append p xs ys) ∙ e

-- what is in the first part isn't in the second
pub not-second : (p : Pair) (xs ys : List Pair) → AreApart xs ys → is_in p xs ≡ true → is_in p ys ≡ false
not-second p xs ys apart there = go (is_in p ys) refl
  where
    go : (b : Bool) → is_in p ys ≡ b → b ≡ false
    go false e = refl
    go true e = absurd (let out = apart p e in cc)

-- what is left was there
pub in-more : (p q : Pair) (ys less : List Pair) → is_in p less ≡ (not (is_pair p q) && is_in p ys) → is_in p less ≡ true → is_in p ys ≡ true
in-more p q ys less e there = go (is_pair p q) (is_in p ys) (sym e ∙ there)
  where
    go : (a b : Bool) → (not a && b) ≡ true → b ≡ true
    go true b h = absurd cc
    go false b h = h

-- parts stay apart where a pair comes into the first that isn't in the second
pub apart-first : (q : Pair) (xs more ys : List Pair) → AreApart xs ys → is_in q ys ≡ false → ((p : Pair) → is_in p more ≡ (is_pair p q || is_in p xs)) → AreApart more ys
apart-first q xs more ys apart free e = λ p there. e p ∙ go p (is_pair p q) refl there
  where
    go : (p : Pair) (b : Bool) → is_pair p q ≡ b → is_in p ys ≡ true → (b || is_in p xs) ≡ false
    go p true f there = absurd (let out : is_in p ys ≡ false = subst (λ (y : Pair). is_in y ys ≡ false) (sym (pair_only p q f)) free in cc)
    go p false f there = apart p there

-- and where one comes into the second that isn't in the first
pub apart-second : (q : Pair) (xs same ys more : List Pair) → AreApart xs ys → is_in q xs ≡ false → ((p : Pair) → is_in p same ≡ is_in p xs) → ((p : Pair) → is_in p more ≡ (is_pair p q || is_in p ys)) → AreApart same more
apart-second q xs same ys more apart free e f = λ p there. e p ∙ go p (is_pair p q) refl (sym (f p) ∙ there)
  where
    go : (p : Pair) (b : Bool) → is_pair p q ≡ b → (b || is_in p ys) ≡ true → is_in p xs ≡ false
    go p true g there = subst (λ (y : Pair). is_in y xs ≡ false) (sym (pair_only p q g)) free
    go p false g there = apart p there

-- and where one leaves either
pub apart-less : (q : Pair) (xs fewer ys less : List Pair) → AreApart xs ys → ((p : Pair) → is_in p fewer ≡ (not (is_pair p q) && is_in p xs)) → ((p : Pair) → is_in p less ≡ true → is_in p ys ≡ true) → AreApart fewer less
apart-less q xs fewer ys less apart e f = λ p there. e p ∙ go (is_pair p q) (is_in p xs) (apart p (f p there))
  where
    go : (b c : Bool) → c ≡ false → (not b && c) ≡ false
    go true c e = refl
    go false c e = e

-- ---- the next

-- where a key has the same pairs in two lists, the next is the same
pub next-alike : (key after : ℕ) (xs ys : List Pair) (next : Option ℕ) → ((n : ℕ) → is_in (key, n) xs ≡ is_in (key, n) ys) → IsNextOf key after ys next → IsNextOf key after xs next
next-alike key after xs ys None same is = λ n lt. same n ∙ is n lt
next-alike key after xs ys (Some m) same is = (is.0, same m ∙ is.1, λ n lt there. is.2 n lt (sym (same n) ∙ there))

-- the next of two lists is the lower of theirs
pub next-both : (key after : ℕ) (xs ys : List Pair) (a b : Option ℕ) → IsNextOf key after xs a → IsNextOf key after ys b → IsNextOf key after (xs ++ ys) (lower a b)
next-both key after xs ys None None e f = λ n lt. in-append (key, n) xs ys ∙ rw (e n lt, f n lt) refl
next-both key after xs ys None (Some m) e f = (f.0, in-append (key, m) xs ys ∙ rw (e m f.0) f.1, λ n lt there. f.2 n lt (in-second (key, n) xs ys there (e n lt)))
next-both key after xs ys (Some m) None e f = (e.0, in-append (key, m) xs ys ∙ rw e.1 refl, λ n lt there. e.2 n lt (in-first (key, n) xs ys there (f n lt)))
next-both key after xs ys (Some m) (Some k) e f = (omega arith, least-in (leb m k) refl, λ n lt there. least n lt (is_in (key, n) xs) refl there)
  where
    least-in : (b : Bool) → leb m k ≡ b → is_in (key, min m k) (xs ++ ys) ≡ true
    least-in true g =
        let one : min m k ≡ m = grind (arith, nat_tests) in
        rw one (in-append (key, m) xs ys ∙ rw e.1 refl)
    least-in false g =
        let other : min m k ≡ k = grind (arith, nat_tests) in
        rw other (in-append (key, k) xs ys ∙ ap (λ (b : Bool). is_in (key, k) xs || b) f.1 ∙ or_back (is_in (key, k) xs) true)

    least : (n : ℕ) → after < n → (b : Bool) → is_in (key, n) xs ≡ b → is_in (key, n) (xs ++ ys) ≡ true → min m k ≤ n
    least n lt true g there = let le = e.2 n lt g in omega arith
    least n lt false g there = let le = f.2 n lt (in-second (key, n) xs ys there g) in omega arith

-- and that of the first alone where the key has none in the second
pub next-first : (key after : ℕ) (xs ys : List Pair) (a : Option ℕ) → IsNextOf key after xs a → ((n : ℕ) → is_in (key, n) ys ≡ false) → IsNextOf key after (xs ++ ys) a
next-first key after xs ys a e none = next-alike key after (xs ++ ys) xs a (λ n. in-append (key, n) xs ys ∙ ap (λ (b : Bool). is_in (key, n) xs || b) (none n) ∙ or_back (is_in (key, n) xs) false) e
