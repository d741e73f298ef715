-- Pairs in rising order: where one stands, and what is there once it is put in or taken out.
use Rattle.std.proofs.Common.{◌≡◌, ℕ, zero, suc, ◌+◌, ◌-◌, ◌<◌, ◌≤◌, ◌&&◌, ◌||◌, List, [], ◌∷◌, length, take, drop, get_or, eqb, ltb, Bool, true, false, Some, None, refl, sym, ap, ◌∙◌, subst, arith}
use Rattle.std.specs.Prelude.{not}
use Rattle.std.specs.List.{AllByRecursion, insert, remove}
use Rattle.std.proofs.lemmas.Bool.Decides.{nat_tests}
use Rattle.ordered_index.specs.Ordered.{Pair, is_before, is_left, is_pair, is_in, many_of, one_if, AreRising, IsFirstAfter, IsLeast, IsNextOf}

-- the order is transitive
before_trans : (a b c : Pair) → is_before a b ≡ true → is_before b c ≡ true → is_before a c ≡ true
before_trans a b c e f = grind (arith, nat_tests)

-- and doesn't turn back
not_back : (a b c : Pair) → is_before a b ≡ true → is_before c b ≡ false → is_before c a ≡ false
not_back a b c e f = grind (arith, nat_tests)

-- what is before differs
before_other : (a b : Pair) → is_before a b ≡ true → is_pair a b ≡ false
before_other a b e = grind (arith, nat_tests)

-- either way round
after_other : (a b : Pair) → is_before a b ≡ true → is_pair b a ≡ false
after_other a b e = grind (arith, nat_tests)

-- nothing is before itself
not_itself : (a : Pair) → is_before a a ≡ false
not_itself a = grind (arith, nat_tests)

-- of two that differ one is before the other
back_if_other : (a b : Pair) → is_before a b ≡ false → is_pair a b ≡ false → is_before b a ≡ true
back_if_other a b e f = grind (arith, nat_tests)

-- a pair is itself
pub pair_itself : (a : Pair) → is_pair a a ≡ true
pair_itself a = grind (arith, nat_tests)

-- two numbers
abbrev pair : ℕ → ℕ → Pair
pair p n = (p, n)

-- pairs with equal parts are equal
same_parts : (a b : Pair) → a.0 ≡ b.0 → a.1 ≡ b.1 → a ≡ b
same_parts a b e f = go a.0 b.0 a.1 b.1 e f
  where
    go : (p q n m : ℕ) → p ≡ q → n ≡ m → pair p n ≡ pair q m
    go p q n m g h = rw (g, h) refl

-- those that are one are equal
pub pair_only : (a b : Pair) → is_pair a b ≡ true → a ≡ b
pair_only a b e = same_parts a b (grind (arith, nat_tests)) (grind (arith, nat_tests))

-- ---- halves

-- all of a list are after a pair
abbrev pub AllAfter : Pair → List Pair → Type 0
AllAfter p xs = AllByRecursion (λ q. is_before p q ≡ true) xs

-- none is
abbrev pub NoneAfter : Pair → List Pair → Type 0
NoneAfter p xs = AllByRecursion (λ q. is_before p q ≡ false) xs

-- what holds of all holds of the one at a place
all-get : (P : Pair → Type 0) (i : ℕ) (xs : List Pair) (d : Pair) → AllByRecursion P xs → i < length xs → P (get_or xs i d)
all-get P i [] d all lt = absurd (omega arith)
all-get P zero (x ∷ xs) d all lt = all.0
all-get P (suc i) (x ∷ xs) d all lt = all-get P i xs d all.1 (omega arith)

-- what is after the later is after the earlier
after-after : (p x : Pair) (xs : List Pair) → is_before p x ≡ true → AllAfter x xs → AllAfter p xs
after-after p x [] e all = tt
after-after p x (y ∷ ys) e all = (before_trans p x y e all.0, after-after p x ys e all.1)

-- from a place on that is after a pair, all are
pub above-at : (p : Pair) (i : ℕ) (xs : List Pair) (d : Pair) → AreRising xs → i < length xs → is_before p (get_or xs i d) ≡ true → AllAfter p (drop i xs)
above-at p i [] d r lt e = absurd (omega arith)
above-at p zero (x ∷ xs) d r lt e = (e, after-after p x xs e r.0)
above-at p (suc i) (x ∷ xs) d r lt e = above-at p i xs d r.1 (omega arith) e

-- up to a place that isn't after a pair, none is
pub below-at : (p : Pair) (i : ℕ) (xs : List Pair) (d : Pair) → AreRising xs → i < length xs → is_before p (get_or xs i d) ≡ false → NoneAfter p (take (suc i) xs)
below-at p i [] d r lt e = absurd (omega arith)
below-at p zero (x ∷ xs) d r lt e = (e, tt)
below-at p (suc i) (x ∷ xs) d r lt e = (not_back x (get_or xs i d) p (all-get (λ q. is_before x q ≡ true) i xs d r.0 (omega arith)) e, below-at p i xs d r.1 (omega arith) e)

-- ---- one is put in

-- the order of a choice doesn't matter
or_swap : (a b c : Bool) → (a || (b || c)) ≡ (b || (a || c))
or_swap true true c = refl
or_swap true false c = refl
or_swap false b c = refl

-- a choice of what holds holds
or_true : (a : Bool) → (a || true) ≡ true
or_true true = refl
or_true false = refl

-- what is in a list after an insertion
pub is_in-insert : (q p : Pair) (i : ℕ) (xs : List Pair) → is_in q (insert xs i p) ≡ (is_pair q p || is_in q xs)
is_in-insert q p zero xs = refl
is_in-insert q p (suc i) [] = refl
is_in-insert q p (suc i) (x ∷ xs) = ap (λ (b : Bool). is_pair q x || b) (is_in-insert q p i xs) ∙ or_swap (is_pair q x) (is_pair q p) (is_in q xs)

-- what holds of all and of the new one
all-insert : (P : Pair → Type 0) (p : Pair) (i : ℕ) (xs : List Pair) → AllByRecursion P xs → P p → AllByRecursion P (insert xs i p)
all-insert P p zero xs all one = (one, all)
all-insert P p (suc i) [] all one = (one, tt)
all-insert P p (suc i) (x ∷ xs) all one = (all.0, all-insert P p i xs all.1 one)

-- neither of two
or_left : (a b : Bool) → (a || b) ≡ false → a ≡ false
or_left true b e = absurd cc
or_left false b e = refl

-- nor the other
or_right : (a b : Bool) → (a || b) ≡ false → b ≡ false
or_right true b e = absurd cc
or_right false b e = e

-- a list stays in order where it is inserted in its place
pub rising-insert : (p : Pair) (i : ℕ) (xs : List Pair) → AreRising xs → NoneAfter p (take i xs) → AllAfter p (drop i xs) → is_in p xs ≡ false → AreRising (insert xs i p)
rising-insert p zero xs r below above free = (above, r)
rising-insert p (suc i) [] r below above free = (tt, tt)
rising-insert p (suc i) (x ∷ xs) r below above free =
    (all-insert (λ q. is_before x q ≡ true) p i xs r.0 (back_if_other p x below.0 (or_left (is_pair p x) (is_in p xs) free)), rising-insert p i xs r.1 below.1 above (or_right (is_pair p x) (is_in p xs) free))

-- ---- one is taken out

-- what is after it isn't it
after-none : (p : Pair) (xs : List Pair) → AllAfter p xs → is_in p xs ≡ false
after-none p [] all = refl
after-none p (x ∷ xs) all = rw (before_other p x all.0) (after-none p xs all.1)

-- what is there is as all are
pub all-in : (P : Pair → Type 0) (q : Pair) (xs : List Pair) → AllByRecursion P xs → is_in q xs ≡ true → P q
all-in P q [] all e = absurd cc
all-in P q (x ∷ xs) all e = go (is_pair q x) refl e (λ f. all-in P q xs all.1 f)
  where
    go : (b : Bool) → is_pair q x ≡ b → (b || is_in q xs) ≡ true → (is_in q xs ≡ true → P q) → P q
    go true f h rest = subst P (sym (pair_only q x f)) all.0
    go false f h rest = rest h

-- what holds of all holds of the rest
all-remove : (P : Pair → Type 0) (i : ℕ) (xs : List Pair) → AllByRecursion P xs → AllByRecursion P (remove xs i)
all-remove P zero [] all = tt
all-remove P zero (x ∷ xs) all = all.1
all-remove P (suc i) [] all = tt
all-remove P (suc i) (x ∷ xs) all = (all.0, all-remove P i xs all.1)

-- and the rest is in order
pub rising-remove : (i : ℕ) (xs : List Pair) → AreRising xs → AreRising (remove xs i)
rising-remove zero [] r = tt
rising-remove zero (x ∷ xs) r = r.1
rising-remove (suc i) [] r = tt
rising-remove (suc i) (x ∷ xs) r = (all-remove (λ q. is_before x q ≡ true) i xs r.0, rising-remove i xs r.1)

-- and the rest has one less
pub length-less : (i : ℕ) (xs : List Pair) → i < length xs → length (remove xs i) + 1 ≡ length xs
length-less i [] lt = absurd (omega arith)
length-less zero (x ∷ xs) lt = omega arith
length-less (suc i) (x ∷ xs) lt = omega (arith, length-less i xs (omega arith))

-- a choice without one
not_other : (a b c : Bool) → (b ≡ true → a ≡ false) → (a || (not b && c)) ≡ (not b && (a || c))
not_other true true c h = absurd (let f = h refl in cc)
not_other false true c h = refl
not_other true false c h = refl
not_other false false c h = refl

-- what is in a list after a removal
pub is_in-remove : (q p : Pair) (i : ℕ) (xs : List Pair) (d : Pair) → AreRising xs → i < length xs → get_or xs i d ≡ p → is_in q (remove xs i) ≡ (not (is_pair q p) && is_in q xs)
is_in-remove q p i [] d r lt e = absurd (omega arith)
is_in-remove q p zero (x ∷ xs) d r lt e = subst (λ (z : Pair). is_in q xs ≡ (not (is_pair q z) && (is_pair q x || is_in q xs))) e (go (is_pair q x) refl)
  where
    go : (b : Bool) → is_pair q x ≡ b → is_in q xs ≡ (not (is_pair q x) && (is_pair q x || is_in q xs))
    go true f = rw f (subst (λ (y : Pair). is_in y xs ≡ false) (sym (pair_only q x f)) (after-none x xs r.0))
    go false f = rw f refl
is_in-remove q p (suc i) (x ∷ xs) d r lt e =
    ap (λ (b : Bool). is_pair q x || b) (is_in-remove q p i xs d r.1 (omega arith) e) ∙ not_other (is_pair q x) (is_pair q p) (is_in q xs) (λ f. subst (λ (y : Pair). is_pair y x ≡ false) (sym (pair_only q p f)) (after_other x p (subst (λ (y : Pair). is_before x y ≡ true) e (all-get (λ y. is_before x y ≡ true) i xs d r.0 (omega arith)))))

-- what is there stands last of those that aren't after it
stands-last : (p : Pair) (i : ℕ) (xs : List Pair) (d : Pair) → AreRising xs → i < length xs → NoneAfter p (take (suc i) xs) → AllAfter p (drop (suc i) xs) → is_in p xs ≡ true → get_or xs i d ≡ p
stands-last p i [] d r lt below above there = absurd (omega arith)
stands-last p zero (x ∷ xs) d r lt below above there = go (is_pair p x) refl there
  where
    go : (b : Bool) → is_pair p x ≡ b → (b || is_in p xs) ≡ true → x ≡ p
    go true f h = sym (pair_only p x f)
    go false f h = absurd (let none = after-none p xs above in cc)
stands-last p (suc i) (x ∷ xs) d r lt below above there = stands-last p i xs d r.1 (omega arith) below.1 above (go xs (is_pair p x) refl there r.0 below.1 (omega arith))
  where
    go : (ys : List Pair) (b : Bool) → is_pair p x ≡ b → (b || is_in p ys) ≡ true → AllAfter x ys → NoneAfter p (take (suc i) ys) → i < length ys → is_in p ys ≡ true
    go ys false f h all none le = h
    go [] true f h all none le = absurd (omega arith)
    go (y ∷ ys) true f h all none le = absurd (let e : is_before p y ≡ true = subst (λ (z : Pair). is_before z y ≡ true) (sym (pair_only p x f)) all.0 in let g = none.0 in cc)

-- a pair of the list stands just before what is after it
pub stands-before : (p : Pair) (i : ℕ) (xs : List Pair) (d : Pair) → AreRising xs → i ≤ length xs → NoneAfter p (take i xs) → AllAfter p (drop i xs) → is_in p xs ≡ true → (0 < i) × (get_or xs (i - 1) d ≡ p)
stands-before p zero xs d r le below above there = absurd (let none = after-none p xs above in cc)
stands-before p (suc i) xs d r le below above there =
    let one : suc i - 1 ≡ i = omega arith in
    (omega arith, rw one (stands-last p i xs d r (omega arith) below above there))

-- a pair that doesn't stand just before what is after it isn't there
pub not-there : (p : Pair) (i : ℕ) (xs : List Pair) (d : Pair) → AreRising xs → i ≤ length xs → NoneAfter p (take i xs) → AllAfter p (drop i xs) → (0 < i → get_or xs (i - 1) d ≡ p → ⊥) → is_in p xs ≡ false
not-there p i xs d r le below above other = go (is_in p xs) refl
  where
    go : (b : Bool) → is_in p xs ≡ b → b ≡ false
    go false e = refl
    go true e = absurd (let at = stands-before p i xs d r le below above e in other at.0 at.1)

-- ---- the first, and the next

-- the first is the least
pub first-least : (p : Pair) (ps : List Pair) → AreRising (p ∷ ps) → IsLeast (p ∷ ps) (Some p)
first-least p ps r = (rw (pair_itself p) refl, λ q e. go q (is_pair q p) refl e)
  where
    go : (q : Pair) (b : Bool) → is_pair q p ≡ b → (b || is_in q ps) ≡ true → is_before q p ≡ false
    go q true f h = subst (λ (y : Pair). is_before y p ≡ false) (sym (pair_only q p f)) (not_itself p)
    go q false f h = let e : is_before p q ≡ true = all-in (λ y. is_before p y ≡ true) q ps r.0 h in grind (arith, nat_tests)

-- the first of a list in order is the least
pub first-is : (xs : List Pair) (p : Pair) → 0 < length xs → p ≡ get_or xs 0 p → AreRising xs → IsLeast xs (Some p)
first-is [] p lt e r = absurd (omega arith)
first-is (x ∷ xs) p lt e r = subst (λ (y : Pair). IsLeast (x ∷ xs) (Some y)) (sym e) (first-least x xs r)

-- none up to here is after it, so what is after it is from here on
is_in-drop : (p q : Pair) (i : ℕ) (xs : List Pair) → NoneAfter p (take i xs) → is_before p q ≡ true → is_in q (drop i xs) ≡ is_in q xs
is_in-drop p q zero xs none e = refl
is_in-drop p q (suc i) [] none e = refl
is_in-drop p q (suc i) (x ∷ xs) none e =
    let other : is_pair q x ≡ false = (let f = none.0 in grind (arith, nat_tests)) in
    rw other (is_in-drop p q i xs none.1 e)

-- what is behind a place is in order
rising-drop : (i : ℕ) (xs : List Pair) → AreRising xs → AreRising (drop i xs)
rising-drop zero xs r = r
rising-drop (suc i) [] r = tt
rising-drop (suc i) (x ∷ xs) r = rising-drop i xs r.1

-- a list from a place on begins there
drop-at : (i : ℕ) (xs : List Pair) (d y : Pair) → i < length xs → get_or xs i d ≡ y → drop i xs ≡ y ∷ drop (suc i) xs
drop-at i [] d y lt e = absurd (omega arith)
drop-at zero (x ∷ xs) d y lt e = ap (λ (z : Pair). z ∷ xs) e
drop-at (suc i) (x ∷ xs) d y lt e = drop-at i xs d y (omega arith) e

-- past its end there is nothing
drop-end : (i : ℕ) (xs : List Pair) → length xs ≤ i → drop i xs ≡ []
drop-end zero [] le = refl
drop-end zero (x ∷ xs) le = absurd (omega arith)
drop-end (suc i) [] le = refl
drop-end (suc i) (x ∷ xs) le = drop-end i xs (omega arith)

-- nothing from a place on: nothing is after
pub after-end : (p : Pair) (i : ℕ) (xs : List Pair) → NoneAfter p (take i xs) → length xs ≤ i → IsFirstAfter p xs None
after-end p i xs none le = λ q there. go q (is_before p q) refl there
  where
    go : (q : Pair) (b : Bool) → is_before p q ≡ b → is_in q xs ≡ true → b ≡ false
    go q false e there = refl
    go q true e there = absurd (let gone : is_in q [] ≡ true = subst (λ (l : List Pair). is_in q l ≡ true) (drop-end i xs le) (is_in-drop p q i xs none e ∙ there) in cc)

-- the pair at the place from which on all are after is the first of them
pub after-here : (p : Pair) (i : ℕ) (xs : List Pair) (d y : Pair) → AreRising xs → NoneAfter p (take i xs) → AllAfter p (drop i xs) → i < length xs → get_or xs i d ≡ y → IsFirstAfter p xs (Some y)
after-here p i xs d y r none all lt e =
    let split : drop i xs ≡ y ∷ drop (suc i) xs = drop-at i xs d y lt e in
    let least = first-least y (drop (suc i) xs) (subst AreRising split (rising-drop i xs r)) in
    let first : is_before p y ≡ true = (subst (AllAfter p) split all).0 in
    (sym (is_in-drop p y i xs none first) ∙ ap (is_in y) split ∙ least.0, first, λ q there behind. least.1 q (sym (ap (is_in q) split) ∙ is_in-drop p q i xs none behind ∙ there))

-- a greater number of one key is after
key_after : (key after n : ℕ) → after < n → is_before (key, after) (key, n) ≡ true
key_after key after n lt = grind (arith, nat_tests)

-- where nothing is after, no number is
pub next-none : (key after : ℕ) (xs : List Pair) → IsFirstAfter (key, after) xs None → IsNextOf key after xs None
next-none key after xs none = λ n lt. go n lt (is_in (key, n) xs) refl
  where
    go : (n : ℕ) → after < n → (b : Bool) → is_in (key, n) xs ≡ b → b ≡ false
    go n lt false e = refl
    go n lt true e = absurd (let behind = key_after key after n lt in let off = none (key, n) e in cc)

-- the first pair that is after tells the next number, where it is the key's
pub next-same : (key after : ℕ) (xs : List Pair) (y : Pair) → IsFirstAfter (key, after) xs (Some y) → y.0 ≡ key → IsNextOf key after xs (Some y.1)
next-same key after xs y first e =
    let behind : is_before (key, after) y ≡ true = first.1 in
    (grind (arith, nat_tests), subst (λ (p : Pair). is_in p xs ≡ true) (same_parts y (key, y.1) e refl) first.0, λ n lt there. least n (first.2 (key, n) there (key_after key after n lt)))
  where
    least : (n : ℕ) → is_before (key, n) y ≡ false → y.1 ≤ n
    least n f = grind (arith, nat_tests)

-- and where it is another's, the key has none
pub next-other : (key after : ℕ) (xs : List Pair) (y : Pair) → IsFirstAfter (key, after) xs (Some y) → (y.0 ≡ key → ⊥) → IsNextOf key after xs None
next-other key after xs y first other = λ n lt. go n lt (is_in (key, n) xs) refl
  where
    go : (n : ℕ) → after < n → (b : Bool) → is_in (key, n) xs ≡ b → b ≡ false
    go n lt false e = refl
    go n lt true e =
        let least : is_before (key, n) y ≡ false = first.2 (key, n) e (key_after key after n lt) in
        let behind : is_before (key, after) y ≡ true = first.1 in
        absurd (other (grind (arith, nat_tests)))

-- ---- how many have a key

-- one more has its key
pub many-insert : (k : ℕ) (p : Pair) (i : ℕ) (xs : List Pair) → many_of k (insert xs i p) ≡ many_of k xs + one_if (eqb p.0 k)
many-insert k p zero xs = omega arith
many-insert k p (suc i) [] = omega arith
many-insert k p (suc i) (x ∷ xs) = omega (arith, many-insert k p i xs)

-- one less has it
pub many-remove : (k : ℕ) (p : Pair) (i : ℕ) (xs : List Pair) (d : Pair) → i < length xs → get_or xs i d ≡ p → many_of k (remove xs i) + one_if (eqb p.0 k) ≡ many_of k xs
many-remove k p i [] d lt e = absurd (omega arith)
many-remove k p zero (x ∷ xs) d lt e = subst (λ (y : Pair). many_of k xs + one_if (eqb y.0 k) ≡ one_if (eqb x.0 k) + many_of k xs) e (omega arith)
many-remove k p (suc i) (x ∷ xs) d lt e = omega (arith, many-remove k p i xs d (omega arith) e)

-- the number of pairs that come before those of a key, or no later than they
abbrev lefts : Bool → ℕ → List Pair → ℕ
lefts past key [] = 0
lefts past key (p ∷ ps) = one_if (is_left past key p) + lefts past key ps

-- where none comes before, there are none
lefts-none : (past : Bool) (key : ℕ) (xs : List Pair) → AllByRecursion (λ p. is_left past key p ≡ false) xs → lefts past key xs ≡ 0
lefts-none past key [] all = refl
lefts-none past key (x ∷ xs) all =
    let none : one_if (is_left past key x) ≡ 0 = ap one_if all.0 in
    omega (arith, lefts-none past key xs all.1)

-- a place that divides a list is their number
pub lefts-at : (past : Bool) (key i : ℕ) (xs : List Pair) → i ≤ length xs → AllByRecursion (λ p. is_left past key p ≡ true) (take i xs) → AllByRecursion (λ p. is_left past key p ≡ false) (drop i xs) → i ≡ lefts past key xs
lefts-at past key zero xs le below above = sym (lefts-none past key xs above)
lefts-at past key (suc i) [] le below above = absurd (omega arith)
lefts-at past key (suc i) (x ∷ xs) le below above =
    let rest = lefts-at past key i xs (omega arith) below.1 above in
    let one : one_if (is_left past key x) ≡ 1 = ap one_if below.0 in
    omega arith

-- a pair comes no later than those of a key where it comes before them or has it
left-past : (key : ℕ) (p : Pair) → one_if (is_left true key p) ≡ one_if (is_left false key p) + one_if (eqb p.0 key)
left-past key p = go (ltb p.0 key) refl (eqb p.0 key) refl
  where
    go : (b : Bool) → ltb p.0 key ≡ b → (c : Bool) → eqb p.0 key ≡ c → one_if (is_left true key p) ≡ one_if (is_left false key p) + one_if (eqb p.0 key)
    go true e true f = absurd (grind (arith, nat_tests))
    go true e false f = rw (e, f) refl
    go false e true f = rw (e, f) refl
    go false e false f = rw (e, f) refl

-- so those between two places have the key
pub lefts-many : (key : ℕ) (xs : List Pair) → lefts true key xs ≡ lefts false key xs + many_of key xs
lefts-many key [] = refl
lefts-many key (x ∷ xs) = omega (arith, left-past key x, lefts-many key xs)

pub many-between : (key first past : ℕ) (xs : List Pair) → first ≡ lefts false key xs → past ≡ lefts true key xs → (first ≤ past) × (past - first ≡ many_of key xs)
many-between key first past xs e f = let both = lefts-many key xs in (omega arith, omega arith)

-- what is before one that is left is left
left-before : (past : Bool) (key : ℕ) (p q : Pair) → is_before p q ≡ true → is_left past key q ≡ true → is_left past key p ≡ true
left-before true key p q e f = grind (arith, nat_tests)
left-before false key p q e f = grind (arith, nat_tests)

-- and what is after one that isn't, isn't
right-after : (past : Bool) (key : ℕ) (p q : Pair) → is_before p q ≡ true → is_left past key p ≡ false → is_left past key q ≡ false
right-after true key p q e f = grind (arith, nat_tests)
right-after false key p q e f = grind (arith, nat_tests)

-- up to a place that is left, all are
pub left-at : (past : Bool) (key i : ℕ) (xs : List Pair) (d : Pair) → AreRising xs → i < length xs → is_left past key (get_or xs i d) ≡ true → AllByRecursion (λ p. is_left past key p ≡ true) (take (suc i) xs)
left-at past key i [] d r lt e = absurd (omega arith)
left-at past key zero (x ∷ xs) d r lt e = (e, tt)
left-at past key (suc i) (x ∷ xs) d r lt e = (left-before past key x (get_or xs i d) (all-get (λ q. is_before x q ≡ true) i xs d r.0 (omega arith)) e, left-at past key i xs d r.1 (omega arith) e)

-- from a place on that isn't, none is
all-right : (past : Bool) (key : ℕ) (x : Pair) (xs : List Pair) → AllAfter x xs → is_left past key x ≡ false → AllByRecursion (λ p. is_left past key p ≡ false) xs
all-right past key x [] all e = tt
all-right past key x (y ∷ ys) all e = (right-after past key x y all.0 e, all-right past key x ys all.1 e)

pub right-at : (past : Bool) (key i : ℕ) (xs : List Pair) (d : Pair) → AreRising xs → i < length xs → is_left past key (get_or xs i d) ≡ false → AllByRecursion (λ p. is_left past key p ≡ false) (drop i xs)
right-at past key i [] d r lt e = absurd (omega arith)
right-at past key zero (x ∷ xs) d r lt e = (e, all-right past key x xs r.0 e)
right-at past key (suc i) (x ∷ xs) d r lt e = right-at past key i xs d r.1 (omega arith) e
