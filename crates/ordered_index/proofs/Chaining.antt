-- Chains: what is seen on the way along one, and what the change of a slot does to all.
use Rattle.std.proofs.Common.{◌≡◌, ℕ, zero, suc, ◌+◌, ◌-◌, ◌<◌, ◌≤◌, ◌∙◌, ◌&&◌, ◌||◌, Bool, List, [], ◌∷◌, Option, Some, None, true, false, ap, refl, sym, subst, length, get_or, set, eqb, min, arith, length-set}
use Rattle.std.proofs.lemmas.Bool.Decides.{nat_tests}
use Rattle.std.proofs.lemmas.List.{get_or-set_same, get_or-set_other}
use Rattle.std.specs.Prelude.{not}
use Rattle.std.specs.List.{AllByRecursion}
use Rattle.ordered_index.specs.Chains.{bucket_from, buckets_from, is_among, pairs_in, slots_from, AreHeads, AreLinkedBack, IsChain, IsFree, IsTable}
use Rattle.ordered_index.specs.Hashed.{lower, pairs_of, AreBuckets, AreDistinct, IsBucket}
use Rattle.ordered_index.specs.Ordered.{Pair, OrderedIndex, is_in, is_pair, IsNextOf}
use Rattle.ordered_index.proofs.Hashing.{bucket-at, bucket-less, bucket-more, buckets-set, empty-buckets, empty-pairs, in-own, length-set-one, less-set, more-set, next-alike, next-both, or_back, stays-out}
use Rattle.ordered_index.proofs.Ordering.{pair_itself, pair_only}

-- ---- along a chain

-- from no link on there are no slots
pub no-slots : (most : ℕ) (nexts : List ℕ) (link : ℕ) → link ≡ 0 → slots_from most nexts link ≡ []
no-slots zero nexts link e = refl
no-slots (suc most) nexts zero e = refl
no-slots (suc most) nexts (suc i) e = absurd (omega arith)

-- which is a chain
pub no-chain : (most : ℕ) (nexts : List ℕ) (link : ℕ) → link ≡ 0 → IsChain most nexts link
no-chain zero nexts link e = e
no-chain (suc most) nexts zero e = tt
no-chain (suc most) nexts (suc i) e = absurd (omega arith)

-- one slot of a chain, and the chain after it
pub step-chain : (n c link : ℕ) (nexts : List ℕ) → c < n → (link ≡ 0 → ⊥) → IsChain (n - c) nexts link → (link - 1 < length nexts) × (is_among (link - 1) (slots_from (n - (c + 1)) nexts (get_or nexts (link - 1) 0)) ≡ false) × IsChain (n - (c + 1)) nexts (get_or nexts (link - 1) 0)
step-chain n c zero nexts lt some is = absurd (some refl)
step-chain n c (suc i) nexts lt some is =
    let e : n - c ≡ suc (n - (c + 1)) = omega arith in
    let one : suc i - 1 ≡ i = omega arith in
    rw one (rw e at is)

-- and the slots
pub step-slots : (n c link : ℕ) (nexts : List ℕ) → c < n → (link ≡ 0 → ⊥) → slots_from (n - c) nexts link ≡ (link - 1) ∷ slots_from (n - (c + 1)) nexts (get_or nexts (link - 1) 0)
step-slots n c zero nexts lt some = absurd (some refl)
step-slots n c (suc i) nexts lt some =
    let e : n - c ≡ suc (n - (c + 1)) = omega arith in
    let one : suc i - 1 ≡ i = omega arith in
    rw (one, e) refl

-- a chain has no more slots where more may be
ended : (most : ℕ) (nexts : List ℕ) (link : ℕ) → IsChain most nexts link → slots_from (suc most) nexts link ≡ slots_from most nexts link
ended zero nexts zero is = refl
ended zero nexts (suc i) is = absurd (omega arith)
ended (suc most) nexts zero is = refl
ended (suc most) nexts (suc i) is = ap (λ (l : List ℕ). i ∷ l) (ended most nexts (get_or nexts i 0) is.2)

-- and is one then
longer : (most : ℕ) (nexts : List ℕ) (link : ℕ) → IsChain most nexts link → IsChain (suc most) nexts link
longer zero nexts zero is = tt
longer zero nexts (suc i) is = absurd (omega arith)
longer (suc most) nexts zero is = tt
longer (suc most) nexts (suc i) is = (is.0, rw (ended most nexts (get_or nexts i 0) is.2) is.1, longer most nexts (get_or nexts i 0) is.2)

-- one slot of a chain, and what comes after it
pub step-on : (nexts : List ℕ) (link : ℕ) → (link ≡ 0 → ⊥) → IsChain 16 nexts link → (link - 1 < length nexts) × IsChain 16 nexts (get_or nexts (link - 1) 0) × (slots_from 16 nexts link ≡ (link - 1) ∷ slots_from 16 nexts (get_or nexts (link - 1) 0))
step-on nexts zero some is = absurd (some refl)
step-on nexts (suc i) some is =
    let one : suc i - 1 ≡ i = omega arith in
    rw one (is.0, longer 15 nexts (get_or nexts i 0) is.2, ap (λ (l : List ℕ). i ∷ l) (sym (ended 15 nexts (get_or nexts i 0) is.2)))

-- a chain is short if it is after a slot
pub step-short : (n c link : ℕ) (nexts : List ℕ) → c < n → (link ≡ 0 → ⊥) → IsChain (suc n - c) nexts link → IsChain (n - (c + 1)) nexts (get_or nexts (link - 1) 0) → IsChain (n - c) nexts link
step-short n c zero nexts lt some is short = absurd (some refl)
step-short n c (suc i) nexts lt some is short =
    let one : suc i - 1 ≡ i = omega arith in
    let e : n - c ≡ suc (n - (c + 1)) = omega arith in
    let f : suc n - c ≡ suc (suc (n - (c + 1))) = omega arith in
    let whole : IsChain (suc (suc (n - (c + 1)))) nexts (suc i) = rw f at is in
    let after : IsChain (n - (c + 1)) nexts (get_or nexts i 0) = rw one at short in
    rw e (whole.0, rw (sym (ended (n - (c + 1)) nexts (get_or nexts i 0) after)) whole.1, after)

-- ---- the next of a chain

-- the lower of one number is that
pub lower-none : (a : Option ℕ) → lower a None ≡ a
lower-none None = refl
lower-none (Some n) = refl

-- the lower of three
pub lower-three : (a b c : Option ℕ) → lower a (lower b c) ≡ lower (lower a b) c
lower-three None b c = refl
lower-three (Some a) None c = refl
lower-three (Some a) (Some b) None = refl
lower-three (Some a) (Some b) (Some c) = let e : min a (min b c) ≡ min (min a b) c = omega arith in rw e refl

-- no next in a pair of another key, or of a number that isn't greater
none-next : (key after : ℕ) (q : Pair) → (q.0 ≡ key → after < q.1 → ⊥) → IsNextOf key after (q ∷ []) None
none-next key after q not = λ n lt. grind (arith, nat_tests)

-- the next in one pair
one-next : (key after : ℕ) (q : Pair) → q.0 ≡ key → after < q.1 → IsNextOf key after (q ∷ []) (Some q.1)
one-next key after q same more = (more, grind (arith, nat_tests), λ n lt there. grind (arith, nat_tests))

-- the next where a pair comes first
pub next-more : (key after : ℕ) (q : Pair) (qs : List Pair) (rest : Option ℕ) → q.0 ≡ key → after < q.1 → IsNextOf key after qs rest → IsNextOf key after (q ∷ qs) (lower (Some q.1) rest)
next-more key after q qs rest same more is = next-both key after (q ∷ []) qs (Some q.1) rest (one-next key after q same more) is

-- and where that isn't the next
pub next-same : (key after : ℕ) (q : Pair) (qs : List Pair) (rest : Option ℕ) → (q.0 ≡ key → after < q.1 → ⊥) → IsNextOf key after qs rest → IsNextOf key after (q ∷ qs) rest
next-same key after q qs rest other is = next-both key after (q ∷ []) qs None rest (none-next key after q other) is

-- ---- what is among slots

-- the first is
pub among-first : (i : ℕ) (is : List ℕ) → is_among i (i ∷ is) ≡ true
among-first i is = let same : eqb i i ≡ true = grind (arith, nat_tests) in rw same refl

-- and what is among the others
pub among-later : (i j : ℕ) (is : List ℕ) → is_among i is ≡ true → is_among i (j ∷ is) ≡ true
among-later i j is there = ap (λ (b : Bool). eqb i j || b) there ∙ or_back (eqb i j) true

-- a pair that the first slot doesn't have
pub unlike-first : (p : Pair) (pairs : List Pair) (i : ℕ) (is : List ℕ) → is_pair p (get_or pairs i (0, 0)) ≡ false → is_in p (pairs_in pairs (i ∷ is)) ≡ is_in p (pairs_in pairs is)
unlike-first p pairs i is other = ap (λ (b : Bool). b || is_in p (pairs_in pairs is)) other

-- nor one of another key
pub other-first : (key n : ℕ) (pairs : List Pair) (i : ℕ) (is : List ℕ) → ((get_or pairs i (0, 0)).0 ≡ key → ⊥) → is_in (key, n) (pairs_in pairs (i ∷ is)) ≡ is_in (key, n) (pairs_in pairs is)
other-first key n pairs i is other = unlike-first (key, n) pairs i is (differs (get_or pairs i (0, 0)) other)
  where
    differs : (q : Pair) → (q.0 ≡ key → ⊥) → is_pair (key, n) q ≡ false
    differs q not = grind (arith, nat_tests)

-- the pair that a slot has
pub only-pair : (p q : Pair) → is_pair p q ≡ true → q ≡ p
only-pair p q same = sym (pair_only p q same)

-- ---- a slot changes that a chain doesn't pass

-- what isn't among some isn't the first of them, nor among the others
not-first : (i j : ℕ) (is : List ℕ) → is_among i (j ∷ is) ≡ false → (j ≡ i → ⊥) × (is_among i is ≡ false)
not-first i j is none = go (eqb i j) refl (is_among i is) refl none
  where
    go : (a : Bool) → eqb i j ≡ a → (b : Bool) → is_among i is ≡ b → (a || b) ≡ false → (j ≡ i → ⊥) × (is_among i is ≡ false)
    go true e b f h = absurd cc
    go false e true f h = absurd cc
    go false e false f h = (λ same. let is : eqb i j ≡ true = grind (arith, nat_tests) in cc, f)

-- the slots stay
slots-set : (most : ℕ) (nexts : List ℕ) (link f v : ℕ) → is_among f (slots_from most nexts link) ≡ false → slots_from most (set nexts f v) link ≡ slots_from most nexts link
slots-set zero nexts link f v none = refl
slots-set (suc most) nexts zero f v none = refl
slots-set (suc most) nexts (suc i) f v none =
    let parts = not-first f i (slots_from most nexts (get_or nexts i 0)) none in
    ap (λ (l : List ℕ). i ∷ l) (ap (λ (n : ℕ). slots_from most (set nexts f v) n) (get_or-set_other nexts f i v 0 parts.0) ∙ slots-set most nexts (get_or nexts i 0) f v parts.1)

-- and the chain stays one
chain-set : (most : ℕ) (nexts : List ℕ) (link f v : ℕ) → is_among f (slots_from most nexts link) ≡ false → IsChain most nexts link → IsChain most (set nexts f v) link
chain-set zero nexts link f v none is = is
chain-set (suc most) nexts zero f v none is = tt
chain-set (suc most) nexts (suc i) f v none is =
    let parts = not-first f i (slots_from most nexts (get_or nexts i 0)) none in
    let same : get_or (set nexts f v) i 0 ≡ get_or nexts i 0 = get_or-set_other nexts f i v 0 parts.0 in (
      omega (arith, is.0, length-set {A = ℕ}),
      rw (same, slots-set most nexts (get_or nexts i 0) f v parts.1) is.1,
      rw same (chain-set most nexts (get_or nexts i 0) f v parts.1 is.2),
    )

-- the pairs stay
pairs-set : (pairs : List Pair) (f : ℕ) (q : Pair) (is : List ℕ) → is_among f is ≡ false → pairs_in (set pairs f q) is ≡ pairs_in pairs is
pairs-set pairs f q [] none = refl
pairs-set pairs f q (i ∷ is) none =
    let parts = not-first f i is none in
    rw (get_or-set_other pairs f i q (0, 0) parts.0, pairs-set pairs f q is parts.1) refl

-- pairs as a bucket
abbrev as_bucket : List Pair → OrderedIndex
as_bucket pairs = record { pairs = pairs; limit = 16; seed = 0 }

-- and so does the bucket
bucket-same : (pairs : List Pair) (nexts : List ℕ) (link i f : ℕ) (q : Pair) (v : ℕ) → (is_among f (slots_from 16 nexts link) ≡ false) × (is_among i (slots_from 16 nexts link) ≡ false) → bucket_from (set pairs i q) (set nexts f v) link ≡ bucket_from pairs nexts link
bucket-same pairs nexts link i f q v none =
    ap as_bucket (ap (λ (l : List ℕ). pairs_in (set pairs i q) l) (slots-set 16 nexts link f v none.0) ∙ pairs-set pairs i q (slots_from 16 nexts link) none.1)

-- ---- the buckets of all heads

-- each is that of its head
get-buckets : (pairs : List Pair) (nexts heads : List ℕ) (h : ℕ) (d : OrderedIndex) → h < length heads → get_or (buckets_from pairs nexts heads) h d ≡ bucket_from pairs nexts (get_or heads h 0)
get-buckets pairs nexts [] h d lt = absurd (omega arith)
get-buckets pairs nexts (link ∷ links) zero d lt = refl
get-buckets pairs nexts (link ∷ links) (suc h) d lt = get-buckets pairs nexts links h d (omega arith)

-- there are as many
length-buckets : (pairs : List Pair) (nexts heads : List ℕ) → length (buckets_from pairs nexts heads) ≡ length heads
length-buckets pairs nexts [] = refl
length-buckets pairs nexts (link ∷ links) = omega (arith, length-buckets pairs nexts links)

-- neither slot is in the chain of this link
abbrev AreOutside : List ℕ → ℕ → ℕ → ℕ → Type 0
AreOutside nexts i f link = (is_among f (slots_from 16 nexts link) ≡ false) × (is_among i (slots_from 16 nexts link) ≡ false)

-- all stay
all-same : (pairs : List Pair) (nexts links : List ℕ) (i f : ℕ) (q : Pair) (w : ℕ) → ((j : ℕ) → j < length links → AreOutside nexts i f (get_or links j 0)) → buckets_from (set pairs i q) (set nexts f w) links ≡ buckets_from pairs nexts links
all-same pairs nexts [] i f q w others = refl
all-same pairs nexts (link ∷ links) i f q w others =
    rw (bucket-same pairs nexts link i f q w (others 0 (omega arith)), all-same pairs nexts links i f q w (λ j lt. others (suc j) (omega arith))) refl

-- all but one stay
buckets-change : (pairs : List Pair) (nexts heads : List ℕ) (h i f : ℕ) (q : Pair) (w v : ℕ) → h < length heads → ((j : ℕ) → j < length heads → (j ≡ h → ⊥) → AreOutside nexts i f (get_or heads j 0)) → buckets_from (set pairs i q) (set nexts f w) (set heads h v) ≡ set (buckets_from pairs nexts heads) h (bucket_from (set pairs i q) (set nexts f w) v)
buckets-change pairs nexts [] h i f q w v lt others = absurd (omega arith)
buckets-change pairs nexts (link ∷ links) zero i f q w v lt others =
    ap (λ (l : List OrderedIndex). bucket_from (set pairs i q) (set nexts f w) v ∷ l) (all-same pairs nexts links i f q w (λ j below. others (suc j) (omega arith) (λ e. omega arith)))
buckets-change pairs nexts (link ∷ links) (suc h) i f q w v lt others =
    rw (bucket-same pairs nexts link i f q w (others 0 (omega arith) (λ e. omega arith)), buckets-change pairs nexts links h i f q w v (omega arith) (λ j below other. others (suc j) (omega arith) (λ e. other (omega arith)))) refl

-- heads lead to chains after one was changed
heads-set : (pairs : List Pair) (nexts heads : List ℕ) (h i f : ℕ) (q : Pair) (w v : ℕ) → AreHeads pairs nexts heads → h < length heads → ((j : ℕ) → j < length heads → (j ≡ h → ⊥) → AreOutside nexts i f (get_or heads j 0)) → IsChain 16 (set nexts f w) v → AreDistinct (bucket_from (set pairs i q) (set nexts f w) v).pairs → AreHeads (set pairs i q) (set nexts f w) (set heads h v)
heads-set pairs nexts heads h i f q w v are lt others chain distinct = λ j below. go j (omega (arith, below, length-set {A = ℕ})) (eqb j h) refl
  where
    go : (j : ℕ) → j < length heads → (b : Bool) → eqb j h ≡ b → IsChain 16 (set nexts f w) (get_or (set heads h v) j 0) × AreDistinct (bucket_from (set pairs i q) (set nexts f w) (get_or (set heads h v) j 0)).pairs
    go j below true e =
        let at : h ≡ j = grind (arith, nat_tests) in
        let is : get_or (set heads h v) j 0 ≡ v = subst (λ (k : ℕ). get_or (set heads h v) k 0 ≡ v) at (get_or-set_same heads h v 0 lt) in
        rw is (chain, distinct)
    go j below false e =
        let other : j ≡ h → ⊥ = grind (arith, nat_tests) in
        let is : get_or (set heads h v) j 0 ≡ get_or heads j 0 = get_or-set_other heads h j v 0 other in
        let none = others j below other in
        rw is (chain-set 16 nexts (get_or heads j 0) f w none.0 (are j below).0, subst (λ (b : OrderedIndex). AreDistinct b.pairs) (sym (bucket-same pairs nexts (get_or heads j 0) i f q w none)) (are j below).1)

-- ---- where a slot is

-- the pair of a slot is there
in-slot : (pairs : List Pair) (i : ℕ) (is : List ℕ) → is_among i is ≡ true → is_in (get_or pairs i (0, 0)) (pairs_in pairs is) ≡ true
in-slot pairs i [] there = absurd cc
in-slot pairs i (j ∷ is) there = go (in-slot pairs i is) (eqb i j) refl there
  where
    go : (is_among i is ≡ true → is_in (get_or pairs i (0, 0)) (pairs_in pairs is) ≡ true) → (a : Bool) → eqb i j ≡ a → (a || is_among i is) ≡ true → is_in (get_or pairs i (0, 0)) (pairs_in pairs (j ∷ is)) ≡ true
    go later true e h =
        let same : i ≡ j = grind (arith, nat_tests) in
        subst (λ (k : ℕ). is_in (get_or pairs i (0, 0)) (pairs_in pairs (k ∷ is)) ≡ true) same (let own : is_pair (get_or pairs i (0, 0)) (get_or pairs i (0, 0)) ≡ true = pair_itself (get_or pairs i (0, 0)) in rw own refl)
    go later false e h = ap (λ (b : Bool). is_pair (get_or pairs i (0, 0)) (get_or pairs j (0, 0)) || b) (later h) ∙ or_back (is_pair (get_or pairs i (0, 0)) (get_or pairs j (0, 0))) true

-- the pair of a slot belongs where it stands
place-of-slot : (place : ℕ → ℕ) (pairs : List Pair) (nexts heads : List ℕ) (h i : ℕ) → AreBuckets place 0 (buckets_from pairs nexts heads) → h < length heads → is_among i (slots_from 16 nexts (get_or heads h 0)) ≡ true → place (get_or pairs i (0, 0)).0 ≡ h
place-of-slot place pairs nexts heads h i are lt there =
    let is : IsBucket place (0 + h) (bucket_from pairs nexts (get_or heads h 0)) = subst (λ (b : OrderedIndex). IsBucket place (0 + h) b) (get-buckets pairs nexts heads h (as_bucket []) lt) (bucket-at place 0 (buckets_from pairs nexts heads) h (as_bucket []) are (omega (arith, lt, length-buckets pairs nexts heads))) in
    omega (arith, is (get_or pairs i (0, 0)) (in-slot pairs i (slots_from 16 nexts (get_or heads h 0)) there))

-- so that it stands nowhere else
elsewhere : (place : ℕ → ℕ) (pairs : List Pair) (nexts heads : List ℕ) (h j i : ℕ) → AreBuckets place 0 (buckets_from pairs nexts heads) → h < length heads → j < length heads → (j ≡ h → ⊥) → is_among i (slots_from 16 nexts (get_or heads h 0)) ≡ true → is_among i (slots_from 16 nexts (get_or heads j 0)) ≡ false
elsewhere place pairs nexts heads h j i are lt below other there = go (is_among i (slots_from 16 nexts (get_or heads j 0))) refl
  where
    go : (b : Bool) → is_among i (slots_from 16 nexts (get_or heads j 0)) ≡ b → b ≡ false
    go false e = refl
    go true e = absurd (other (sym (place-of-slot place pairs nexts heads j i are below e) ∙ place-of-slot place pairs nexts heads h i are lt there))

-- a slot of a chain is one
pub among-below : (most : ℕ) (nexts : List ℕ) (link i : ℕ) → IsChain most nexts link → is_among i (slots_from most nexts link) ≡ true → i < length nexts
among-below zero nexts link i is there = absurd cc
among-below (suc most) nexts zero i is there = absurd cc
among-below (suc most) nexts (suc j) i is there = go (among-below most nexts (get_or nexts j 0) i is.2) (eqb i j) refl there
  where
    go : (is_among i (slots_from most nexts (get_or nexts j 0)) ≡ true → i < length nexts) → (a : Bool) → eqb i j ≡ a → (a || is_among i (slots_from most nexts (get_or nexts j 0))) ≡ true → i < length nexts
    go later true e h = let same : i ≡ j = grind (arith, nat_tests) in omega (arith, is.0)
    go later false e h = later h

-- ---- a pair comes

-- the bucket to which it comes
abbrev with_pair : Pair → List Pair → OrderedIndex
with_pair q pairs = record { pairs = q ∷ pairs; limit = 16; seed = 0 }

-- the free slots are still those, without the first
free-left : (pairs : List Pair) (nexts heads : List ℕ) (h f m : ℕ) → h < length heads → IsChain 15 nexts (get_or heads h 0) → IsChain (suc m) nexts (suc f) → ((i j : ℕ) → is_among i (slots_from (suc m) nexts (suc f)) ≡ true → j < length heads → is_among i (slots_from 16 nexts (get_or heads j 0)) ≡ false) → IsFree (set nexts f (get_or heads h 0)) (set heads h (suc f)) (get_or nexts f 0)
free-left pairs nexts heads h f m lt short chain apart = (m, chain-set m nexts (get_or nexts f 0) f (get_or heads h 0) chain.1 chain.2, λ i j there below. go i j (sym (ap (λ (l : List ℕ). is_among i l) (slots-set m nexts (get_or nexts f 0) f (get_or heads h 0) chain.1)) ∙ there) (omega (arith, below, length-set {A = ℕ})) (eqb j h) refl)
  where
    outside : (j : ℕ) → j < length heads → is_among f (slots_from 16 nexts (get_or heads j 0)) ≡ false
    outside j below = apart f j (among-first f (slots_from m nexts (get_or nexts f 0))) below

    unlike : (i : ℕ) → is_among i (slots_from m nexts (get_or nexts f 0)) ≡ true → (b : Bool) → eqb i f ≡ b → b ≡ false
    unlike i there false e = refl
    unlike i there true e =
        let same : i ≡ f = grind (arith, nat_tests) in
        absurd (let among : is_among f (slots_from m nexts (get_or nexts f 0)) ≡ true = subst (λ (k : ℕ). is_among k (slots_from m nexts (get_or nexts f 0)) ≡ true) same there in let none = chain.1 in cc)

    go : (i j : ℕ) → is_among i (slots_from m nexts (get_or nexts f 0)) ≡ true → j < length heads → (b : Bool) → eqb j h ≡ b → is_among i (slots_from 16 (set nexts f (get_or heads h 0)) (get_or (set heads h (suc f)) j 0)) ≡ false
    go i j there below true e =
        let at : h ≡ j = grind (arith, nat_tests) in
        let is : get_or (set heads h (suc f)) j 0 ≡ suc f = subst (λ (k : ℕ). get_or (set heads h (suc f)) k 0 ≡ suc f) at (get_or-set_same heads h (suc f) 0 lt) in
        let other : eqb i f ≡ false = unlike i there (eqb i f) refl in
        let next : get_or (set nexts f (get_or heads h 0)) f 0 ≡ get_or heads h 0 = get_or-set_same nexts f (get_or heads h 0) 0 chain.0 in
        let none : is_among f (slots_from 15 nexts (get_or heads h 0)) ≡ false = subst (λ (l : List ℕ). is_among f l ≡ false) (ended 15 nexts (get_or heads h 0) short) (outside h lt) in
        let rest : is_among i (slots_from 15 nexts (get_or heads h 0)) ≡ false = subst (λ (l : List ℕ). is_among i l ≡ false) (ended 15 nexts (get_or heads h 0) short) (apart i h (among-later i f (slots_from m nexts (get_or nexts f 0)) there) lt) in
        rw (is, other, next, slots-set 15 nexts (get_or heads h 0) f (get_or heads h 0) none) rest
    go i j there below false e =
        let other : j ≡ h → ⊥ = grind (arith, nat_tests) in
        rw (get_or-set_other heads h j (suc f) 0 other, slots-set 16 nexts (get_or heads j 0) f (get_or heads h 0) (outside j below)) (apart i j (among-later i f (slots_from m nexts (get_or nexts f 0)) there) below)

-- the chain to which it comes
comes : (pairs : List Pair) (nexts : List ℕ) (f head : ℕ) (q : Pair) → f < length nexts → length pairs ≡ length nexts → IsChain 15 nexts head → is_among f (slots_from 16 nexts head) ≡ false → (bucket_from (set pairs f q) (set nexts f head) (suc f) ≡ with_pair q (bucket_from pairs nexts head).pairs) × IsChain 16 (set nexts f head) (suc f)
comes pairs nexts f head q lt both short outside =
    let next : get_or (set nexts f head) f 0 ≡ head = get_or-set_same nexts f head 0 lt in
    let own : get_or (set pairs f q) f (0, 0) ≡ q = get_or-set_same pairs f q (0, 0) (omega arith) in
    let end = ended 15 nexts head short in
    let none : is_among f (slots_from 15 nexts head) ≡ false = subst (λ (l : List ℕ). is_among f l ≡ false) end outside in
    let slots : slots_from 15 (set nexts f head) (get_or (set nexts f head) f 0) ≡ slots_from 15 nexts head = ap (λ (n : ℕ). slots_from 15 (set nexts f head) n) next ∙ slots-set 15 nexts head f head none in
    let pair : pairs_in (set pairs f q) (slots_from 15 (set nexts f head) (get_or (set nexts f head) f 0)) ≡ pairs_in pairs (slots_from 16 nexts head) = ap (λ (l : List ℕ). pairs_in (set pairs f q) l) slots ∙ pairs-set pairs f q (slots_from 15 nexts head) none ∙ ap (λ (l : List ℕ). pairs_in pairs l) (sym end) in (
      ap (λ (p : Pair). with_pair p (pairs_in (set pairs f q) (slots_from 15 (set nexts f head) (get_or (set nexts f head) f 0)))) own ∙ ap (λ (l : List Pair). with_pair q l) pair,
      (omega (arith, lt, length-set {A = ℕ}), rw slots none, rw next (chain-set 15 nexts head f head none short)),
    )

-- a table where a pair comes to the first free slot
put-table : (place : ℕ → ℕ) (pairs : List Pair) (nexts heads : List ℕ) (f h : ℕ) (q : Pair) → IsTable place pairs nexts heads (suc f) → h < length heads → place q.0 ≡ h → IsChain 15 nexts (get_or heads h 0) → is_in q (bucket_from pairs nexts (get_or heads h 0)).pairs ≡ false → (buckets_from (set pairs f q) (set nexts f (get_or heads h 0)) (set heads h (suc f)) ≡ set (buckets_from pairs nexts heads) h (with_pair q (bucket_from pairs nexts (get_or heads h 0)).pairs)) × IsTable place (set pairs f q) (set nexts f (get_or heads h 0)) (set heads h (suc f)) (get_or nexts f 0)
put-table place pairs nexts heads f h q is lt at short absent = go is.3.0 is.3.1 is.3.2
  where
    go : (most : ℕ) → IsChain most nexts (suc f) → ((i j : ℕ) → is_among i (slots_from most nexts (suc f)) ≡ true → j < length heads → is_among i (slots_from 16 nexts (get_or heads j 0)) ≡ false) → (buckets_from (set pairs f q) (set nexts f (get_or heads h 0)) (set heads h (suc f)) ≡ set (buckets_from pairs nexts heads) h (with_pair q (bucket_from pairs nexts (get_or heads h 0)).pairs)) × IsTable place (set pairs f q) (set nexts f (get_or heads h 0)) (set heads h (suc f)) (get_or nexts f 0)
    go zero chain apart = absurd (omega arith)
    go (suc m) chain apart =
        let outside : (j : ℕ) → j < length heads → is_among f (slots_from 16 nexts (get_or heads j 0)) ≡ false = λ j below. apart f j (among-first f (slots_from m nexts (get_or nexts f 0))) below in
        let others : (j : ℕ) → j < length heads → (j ≡ h → ⊥) → AreOutside nexts f f (get_or heads j 0) = λ j below other. (outside j below, outside j below) in
        let new = comes pairs nexts f (get_or heads h 0) q chain.0 is.0 short (outside h lt) in
        let whole : buckets_from (set pairs f q) (set nexts f (get_or heads h 0)) (set heads h (suc f)) ≡ set (buckets_from pairs nexts heads) h (with_pair q (bucket_from pairs nexts (get_or heads h 0)).pairs) = buckets-change pairs nexts heads h f f q (get_or heads h 0) (suc f) lt others ∙ ap (λ (b : OrderedIndex). set (buckets_from pairs nexts heads) h b) new.0 in
        let old : IsBucket place (0 + h) (bucket_from pairs nexts (get_or heads h 0)) = subst (λ (b : OrderedIndex). IsBucket place (0 + h) b) (get-buckets pairs nexts heads h (as_bucket []) lt) (bucket-at place 0 (buckets_from pairs nexts heads) h (as_bucket []) is.2 (omega (arith, lt, length-buckets pairs nexts heads))) in (
          whole,
          (
            omega (arith, is.0, length-set {A = Pair} pairs f q, length-set {A = ℕ} nexts f (get_or heads h 0)),
            heads-set pairs nexts heads h f f q (get_or heads h 0) (suc f) is.1 lt others new.1 (subst (λ (b : OrderedIndex). AreDistinct b.pairs) (sym new.0) (absent, (is.1 h lt).1)),
            subst (λ (l : List OrderedIndex). AreBuckets place 0 l) (sym whole) (buckets-set place 0 (buckets_from pairs nexts heads) h (with_pair q (bucket_from pairs nexts (get_or heads h 0)).pairs) is.2 (bucket-more place (0 + h) (bucket_from pairs nexts (get_or heads h 0)) (with_pair q (bucket_from pairs nexts (get_or heads h 0)).pairs) q old (omega arith) (λ p. refl))),
            free-left pairs nexts heads h f m lt short chain apart,
          ),
        )

-- the same, by the names of the code
put-at : (place : ℕ → ℕ) (pairs : List Pair) (nexts heads : List ℕ) (free f h head next : ℕ) (q : Pair) → IsTable place pairs nexts heads free → free ≡ suc f → head ≡ get_or heads h 0 → next ≡ get_or nexts f 0 → h < length heads → place q.0 ≡ h → IsChain 15 nexts head → is_in q (bucket_from pairs nexts head).pairs ≡ false → (buckets_from (set pairs f q) (set nexts f head) (set heads h free) ≡ set (buckets_from pairs nexts heads) h (with_pair q (bucket_from pairs nexts head).pairs)) × IsTable place (set pairs f q) (set nexts f head) (set heads h free) next
put-at place pairs nexts heads free f h head next q is link first after lt at short absent =
    rw (link, first, after) (put-table place pairs nexts heads f h q (rw link at is) lt at (rw first at short) (rw first at absent))

-- a first free slot is one
pub free-below : (nexts heads : List ℕ) (free : ℕ) → IsFree nexts heads free → (free ≡ 0 → ⊥) → free - 1 < length nexts
free-below nexts heads free is some = go is.0 free is.1 some
  where
    go : (most free : ℕ) → IsChain most nexts free → (free ≡ 0 → ⊥) → free - 1 < length nexts
    go most zero chain some = absurd (some refl)
    go zero (suc f) chain some = absurd (omega arith)
    go (suc m) (suc f) chain some = omega (arith, chain.0)

-- what a table is and has after a pair has come
pub put-all : (place : ℕ → ℕ) (pairs : List Pair) (nexts heads : List ℕ) (free h head next : ℕ) (q : Pair) → IsTable place pairs nexts heads free → (free ≡ 0 → ⊥) → head ≡ get_or heads h 0 → next ≡ get_or nexts (free - 1) 0 → h < length heads → place q.0 ≡ h → IsChain 15 nexts head → is_in q (pairs_of (buckets_from pairs nexts heads)) ≡ false → IsTable place (set pairs (free - 1) q) (set nexts (free - 1) head) (set heads h free) next × ((p : Pair) → is_in p (pairs_of (buckets_from (set pairs (free - 1) q) (set nexts (free - 1) head) (set heads h free))) ≡ (is_pair p q || is_in p (pairs_of (buckets_from pairs nexts heads)))) × (length (pairs_of (buckets_from (set pairs (free - 1) q) (set nexts (free - 1) head) (set heads h free))) ≡ length (pairs_of (buckets_from pairs nexts heads)) + 1)
put-all place pairs nexts heads free h head next q is some first after lt at short absent =
    let buckets = buckets_from pairs nexts heads in
    let new = with_pair q (bucket_from pairs nexts head).pairs in
    let within : h < length (buckets_from pairs nexts heads) = omega (arith, lt, length-buckets pairs nexts heads) in
    let own : get_or (buckets_from pairs nexts heads) h (as_bucket []) ≡ bucket_from pairs nexts head = get-buckets pairs nexts heads h (as_bucket []) lt ∙ ap (λ (n : ℕ). bucket_from pairs nexts n) (sym first) in
    let none : is_in q (bucket_from pairs nexts head).pairs ≡ false = ap (λ (b : OrderedIndex). is_in q b.pairs) (sym own) ∙ sym (in-own place 0 buckets q h (as_bucket []) is.2 within (omega (arith, at))) ∙ absent in
    let link : free ≡ suc (free - 1) = omega arith in
    let put = put-at place pairs nexts heads free (free - 1) h head next q is link first after lt at short none in (
      put.1,
      λ p. ap (λ (l : List OrderedIndex). is_in p (pairs_of l)) put.0 ∙ more-set buckets h (as_bucket []) new p q within (ap (λ (b : OrderedIndex). is_pair p q || is_in p b.pairs) (sym own)),
      omega (arith, ap (λ (l : List OrderedIndex). length (pairs_of l)) put.0, length-set-one buckets h (as_bucket []) new within, ap (λ (b : OrderedIndex). length b.pairs) own),
    )

-- ---- a pair leaves

-- a pair that is there isn't one that isn't
differ : (p x q : Pair) (xs : List Pair) → is_in x xs ≡ false → is_in q xs ≡ true → is_pair p x ≡ true → is_pair p q ≡ false
differ p x q xs out there is = go (is_pair p q) refl
  where
    go : (b : Bool) → is_pair p q ≡ b → b ≡ false
    go false e = refl
    go true e =
        let same : x ≡ q = sym (pair_only p x is) ∙ pair_only p q e in
        absurd (let h : is_in q xs ≡ false = subst (λ (y : Pair). is_in y xs ≡ false) same out in cc)

-- a slot whose pair isn't among some isn't either
not-among : (pairs : List Pair) (i : ℕ) (is : List ℕ) → is_in (get_or pairs i (0, 0)) (pairs_in pairs is) ≡ false → is_among i is ≡ false
not-among pairs i is out = go (is_among i is) refl
  where
    go : (b : Bool) → is_among i is ≡ b → b ≡ false
    go false e = refl
    go true e = absurd (let there = in-slot pairs i is e in cc)

-- neither of two
or-parts : (a b : Bool) → (a || b) ≡ false → (a ≡ false) × (b ≡ false)
or-parts true b e = absurd cc
or-parts false b e = (refl, e)

-- either way round
pair_back : (p q : Pair) → is_pair p q ≡ is_pair q p
pair_back p q = grind (arith, nat_tests)

-- another pair comes into a slot
swapped-less : (p x : Pair) (pairs : List Pair) (i : ℕ) (is : List ℕ) → is_in x (pairs_in pairs is) ≡ false → AreDistinct (pairs_in pairs is) → is_among i is ≡ true → i < length pairs → is_in p (pairs_in (set pairs i x) is) ≡ (not (is_pair p (get_or pairs i (0, 0))) && (is_pair p x || is_in p (pairs_in pairs is)))
swapped-less p x pairs i [] out are there lt = absurd cc
swapped-less p x pairs i (j ∷ is) out are there lt = go (swapped-less p x pairs i is (or-parts (is_pair x (get_or pairs j (0, 0))) (is_in x (pairs_in pairs is)) out).1 are.1) (eqb i j) refl there
  where
    parts : (is_pair x (get_or pairs j (0, 0)) ≡ false) × (is_in x (pairs_in pairs is) ≡ false)
    parts = or-parts (is_pair x (get_or pairs j (0, 0))) (is_in x (pairs_in pairs is)) out

    here : (b : Bool) → is_pair p (get_or pairs j (0, 0)) ≡ b → (is_pair p x || is_in p (pairs_in pairs is)) ≡ (not b && (is_pair p x || (b || is_in p (pairs_in pairs is))))
    here false e = refl
    here true e =
        let same : p ≡ get_or pairs j (0, 0) = pair_only p (get_or pairs j (0, 0)) e in
        let one : is_pair p x ≡ false = ap (λ (y : Pair). is_pair y x) same ∙ pair_back (get_or pairs j (0, 0)) x ∙ parts.0 in
        let two : is_in p (pairs_in pairs is) ≡ false = subst (λ (y : Pair). is_in y (pairs_in pairs is) ≡ false) (sym same) are.0 in
        rw (one, two) refl

    there-too : (a b c d : Bool) → (b ≡ true → d ≡ false) → (b || (not d && (a || c))) ≡ (not d && (a || (b || c)))
    there-too a true c d e = rw (e refl) (sym (or_back a true))
    there-too a false c d e = refl

    go : (is_among i is ≡ true → i < length pairs → is_in p (pairs_in (set pairs i x) is) ≡ (not (is_pair p (get_or pairs i (0, 0))) && (is_pair p x || is_in p (pairs_in pairs is)))) → (b : Bool) → eqb i j ≡ b → (b || is_among i is) ≡ true → is_in p (pairs_in (set pairs i x) (j ∷ is)) ≡ (not (is_pair p (get_or pairs i (0, 0))) && (is_pair p x || is_in p (pairs_in pairs (j ∷ is))))
    go later true e h =
        let same : j ≡ i = grind (arith, nat_tests) in
        let own : get_or (set pairs i x) j (0, 0) ≡ x = subst (λ (k : ℕ). get_or (set pairs i x) k (0, 0) ≡ x) (sym same) (get_or-set_same pairs i x (0, 0) lt) in
        let none : is_among i is ≡ false = subst (λ (k : ℕ). is_among k is ≡ false) same (not-among pairs j is are.0) in
        ap (λ (y : Pair). is_pair p y || is_in p (pairs_in (set pairs i x) is)) own
        ∙ ap (λ (l : List Pair). is_pair p x || is_in p l) (pairs-set pairs i x is none)
        ∙ here (is_pair p (get_or pairs j (0, 0))) refl
        ∙ ap (λ (k : ℕ). not (is_pair p (get_or pairs k (0, 0))) && (is_pair p x || (is_pair p (get_or pairs j (0, 0)) || is_in p (pairs_in pairs is)))) same
    go later false e h =
        let other : j ≡ i → ⊥ = λ same. let is : eqb i j ≡ true = grind (arith, nat_tests) in cc in
        ap (λ (y : Pair). is_pair p y || is_in p (pairs_in (set pairs i x) is)) (get_or-set_other pairs i j x (0, 0) other)
        ∙ ap (λ (b : Bool). is_pair p (get_or pairs j (0, 0)) || b) (later h lt)
        ∙ there-too (is_pair p x) (is_pair p (get_or pairs j (0, 0))) (is_in p (pairs_in pairs is)) (is_pair p (get_or pairs i (0, 0))) (differ p (get_or pairs j (0, 0)) (get_or pairs i (0, 0)) (pairs_in pairs is) are.0 (in-slot pairs i is h))

-- none is there twice then
swapped-distinct : (x : Pair) (pairs : List Pair) (i : ℕ) (is : List ℕ) → is_in x (pairs_in pairs is) ≡ false → AreDistinct (pairs_in pairs is) → is_among i is ≡ true → i < length pairs → AreDistinct (pairs_in (set pairs i x) is)
swapped-distinct x pairs i [] out are there lt = tt
swapped-distinct x pairs i (j ∷ is) out are there lt = go (swapped-distinct x pairs i is (or-parts (is_pair x (get_or pairs j (0, 0))) (is_in x (pairs_in pairs is)) out).1 are.1) (eqb i j) refl there
  where
    parts : (is_pair x (get_or pairs j (0, 0)) ≡ false) × (is_in x (pairs_in pairs is) ≡ false)
    parts = or-parts (is_pair x (get_or pairs j (0, 0))) (is_in x (pairs_in pairs is)) out

    none-left : (a b : Bool) → a ≡ false → (not b && (a || false)) ≡ false
    none-left true b e = absurd cc
    none-left false true e = refl
    none-left false false e = refl

    go : (is_among i is ≡ true → i < length pairs → AreDistinct (pairs_in (set pairs i x) is)) → (b : Bool) → eqb i j ≡ b → (b || is_among i is) ≡ true → AreDistinct (pairs_in (set pairs i x) (j ∷ is))
    go later true e h =
        let same : j ≡ i = grind (arith, nat_tests) in
        let own : get_or (set pairs i x) j (0, 0) ≡ x = subst (λ (k : ℕ). get_or (set pairs i x) k (0, 0) ≡ x) (sym same) (get_or-set_same pairs i x (0, 0) lt) in
        let none : is_among i is ≡ false = subst (λ (k : ℕ). is_among k is ≡ false) same (not-among pairs j is are.0) in
        rw (own, pairs-set pairs i x is none) (parts.1, are.1)
    go later false e h =
        let other : j ≡ i → ⊥ = λ same. let is : eqb i j ≡ true = grind (arith, nat_tests) in cc in
        let y = get_or pairs j (0, 0) in
        let out-of : is_in (get_or pairs j (0, 0)) (pairs_in (set pairs i x) is) ≡ false =
        swapped-less y x pairs i is parts.1 are.1 h lt
        ∙ ap (λ (b : Bool). not (is_pair y (get_or pairs i (0, 0))) && (is_pair y x || b)) are.0
        ∙ none-left (is_pair y x) (is_pair y (get_or pairs i (0, 0))) (pair_back y x ∙ parts.0) in
        rw (get_or-set_other pairs i j x (0, 0) other) (out-of, later h lt)

-- there are as many pairs as slots
length-in : (pairs : List Pair) (is : List ℕ) → length (pairs_in pairs is) ≡ length is
length-in pairs [] = refl
length-in pairs (i ∷ is) = omega (arith, length-in pairs is)

-- the pairs of a chain after the first of them has come in the place of another, and its slot was left out
leaves : (pairs : List Pair) (i f : ℕ) (is : List ℕ) → AreDistinct (pairs_in pairs (f ∷ is)) → is_among i (f ∷ is) ≡ true → i < length pairs → ((p : Pair) → is_in p (pairs_in (set pairs i (get_or pairs f (0, 0))) is) ≡ (not (is_pair p (get_or pairs i (0, 0))) && is_in p (pairs_in pairs (f ∷ is)))) × AreDistinct (pairs_in (set pairs i (get_or pairs f (0, 0))) is)
leaves pairs i f is are there lt = go (eqb i f) refl there
  where
    left-out : (p : Pair) (a b : Bool) → (not a && b) ≡ (not a && (a || b))
    left-out p true b = refl
    left-out p false b = refl

    go : (b : Bool) → eqb i f ≡ b → (b || is_among i is) ≡ true → ((p : Pair) → is_in p (pairs_in (set pairs i (get_or pairs f (0, 0))) is) ≡ (not (is_pair p (get_or pairs i (0, 0))) && is_in p (pairs_in pairs (f ∷ is)))) × AreDistinct (pairs_in (set pairs i (get_or pairs f (0, 0))) is)
    go true e h =
        let same : f ≡ i = grind (arith, nat_tests) in
        let none : is_among i is ≡ false = subst (λ (k : ℕ). is_among k is ≡ false) same (not-among pairs f is are.0) in
        let stay = pairs-set pairs i (get_or pairs f (0, 0)) is none in (
          λ p.
              ap (λ (l : List Pair). is_in p l) stay
              ∙ stays-out p (get_or pairs f (0, 0)) (pairs_in pairs is) are.0
              ∙ left-out p (is_pair p (get_or pairs f (0, 0))) (is_in p (pairs_in pairs is))
              ∙ ap (λ (k : ℕ). not (is_pair p (get_or pairs k (0, 0))) && is_in p (pairs_in pairs (f ∷ is))) same,
          subst (λ (l : List Pair). AreDistinct l) (sym stay) are.1,
        )
    go false e h = (λ p. swapped-less p (get_or pairs f (0, 0)) pairs i is are.0 are.1 h lt, swapped-distinct (get_or pairs f (0, 0)) pairs i is are.0 are.1 h lt)

-- the free slots, with one more
free-more : (nexts heads : List ℕ) (free h f : ℕ) → IsFree nexts heads free → h < length heads → get_or heads h 0 ≡ suc f → IsChain 16 nexts (suc f) → ((j : ℕ) → j < length heads → (j ≡ h → ⊥) → is_among f (slots_from 16 nexts (get_or heads j 0)) ≡ false) → IsFree (set nexts f free) (set heads h (get_or nexts f 0)) (suc f)
free-more nexts heads free h f is lt head chain others =
    (suc is.0, (omega (arith, chain.0, length-set {A = ℕ}), rw slots none, rw own (chain-set is.0 nexts free f free none is.1)), λ k j there below. split k j (eqb k f) refl (sym (ap (λ (l : List ℕ). is_among k (f ∷ l)) slots) ∙ there) (omega (arith, below, length-set {A = ℕ})))
  where
    own : get_or (set nexts f free) f 0 ≡ free
    own = get_or-set_same nexts f free 0 chain.0

    out : (b : Bool) → is_among f (slots_from is.0 nexts free) ≡ b → b ≡ false
    out false e = refl
    out true e = absurd (let there : is_among f (slots_from 16 nexts (suc f)) ≡ true = among-first f (slots_from 15 nexts (get_or nexts f 0)) in let none : is_among f (slots_from 16 nexts (suc f)) ≡ false = subst (λ (n : ℕ). is_among f (slots_from 16 nexts n) ≡ false) head (is.2 f h e lt) in cc)

    none : is_among f (slots_from is.0 nexts free) ≡ false
    none = out (is_among f (slots_from is.0 nexts free)) refl

    slots : slots_from is.0 (set nexts f free) (get_or (set nexts f free) f 0) ≡ slots_from is.0 nexts free
    slots = ap (λ (n : ℕ). slots_from is.0 (set nexts f free) n) own ∙ slots-set is.0 nexts free f free none

    behind : is_among f (slots_from 16 nexts (get_or nexts f 0)) ≡ false
    behind = subst (λ (l : List ℕ). is_among f l ≡ false) (sym (ended 15 nexts (get_or nexts f 0) chain.2)) chain.1

    fin : (k j : ℕ) → is_among k (slots_from 16 nexts (get_or nexts f 0)) ≡ false → (j < length heads → (j ≡ h → ⊥) → is_among k (slots_from 16 nexts (get_or heads j 0)) ≡ false) → j < length heads → (b : Bool) → eqb j h ≡ b → is_among k (slots_from 16 (set nexts f free) (get_or (set heads h (get_or nexts f 0)) j 0)) ≡ false
    fin k j own-out other-out below true e =
        let at : h ≡ j = grind (arith, nat_tests) in
        let is : get_or (set heads h (get_or nexts f 0)) j 0 ≡ get_or nexts f 0 = subst (λ (n : ℕ). get_or (set heads h (get_or nexts f 0)) n 0 ≡ get_or nexts f 0) at (get_or-set_same heads h (get_or nexts f 0) 0 lt) in
        ap (λ (n : ℕ). is_among k (slots_from 16 (set nexts f free) n)) is ∙ ap (λ (l : List ℕ). is_among k l) (slots-set 16 nexts (get_or nexts f 0) f free behind) ∙ own-out
    fin k j own-out other-out below false e =
        let other : j ≡ h → ⊥ = grind (arith, nat_tests) in
        ap (λ (n : ℕ). is_among k (slots_from 16 (set nexts f free) n)) (get_or-set_other heads h j (get_or nexts f 0) 0 other) ∙ ap (λ (l : List ℕ). is_among k l) (slots-set 16 nexts (get_or heads j 0) f free (others j below other)) ∙ other-out below other

    split : (k j : ℕ) → (b : Bool) → eqb k f ≡ b → (eqb k f || is_among k (slots_from is.0 nexts free)) ≡ true → j < length heads → is_among k (slots_from 16 (set nexts f free) (get_or (set heads h (get_or nexts f 0)) j 0)) ≡ false
    split k j true e there below =
        let same : f ≡ k = grind (arith, nat_tests) in
        subst (λ (n : ℕ). is_among n (slots_from 16 (set nexts f free) (get_or (set heads h (get_or nexts f 0)) j 0)) ≡ false) same (fin f j behind (others j) below (eqb j h) refl)
    split k j false e there below =
        let among : is_among k (slots_from is.0 nexts free) ≡ true = sym (ap (λ (b : Bool). b || is_among k (slots_from is.0 nexts free)) e) ∙ there in
        let whole : is_among k (slots_from 16 nexts (suc f)) ≡ false = subst (λ (n : ℕ). is_among k (slots_from 16 nexts n) ≡ false) head (is.2 k h among lt) in
        let later = (not-first k f (slots_from 15 nexts (get_or nexts f 0)) whole).1 in
        fin k j (subst (λ (l : List ℕ). is_among k l ≡ false) (sym (ended 15 nexts (get_or nexts f 0) chain.2)) later) (λ b other. is.2 k j among b) below (eqb j h) refl

-- a table that a pair leaves
take-table : (place : ℕ → ℕ) (pairs : List Pair) (nexts heads : List ℕ) (free i f h : ℕ) → IsTable place pairs nexts heads free → h < length heads → get_or heads h 0 ≡ suc f → is_among i (slots_from 16 nexts (suc f)) ≡ true → (buckets_from (set pairs i (get_or pairs f (0, 0))) (set nexts f free) (set heads h (get_or nexts f 0)) ≡ set (buckets_from pairs nexts heads) h (as_bucket (pairs_in (set pairs i (get_or pairs f (0, 0))) (slots_from 15 nexts (get_or nexts f 0))))) × IsTable place (set pairs i (get_or pairs f (0, 0))) (set nexts f free) (set heads h (get_or nexts f 0)) (suc f)
take-table place pairs nexts heads free i f h is lt head there =
    let x = get_or pairs f (0, 0) in
    let v = get_or nexts f 0 in
    let js = slots_from 15 nexts (get_or nexts f 0) in
    let chain : IsChain 16 nexts (suc f) = subst (λ (n : ℕ). IsChain 16 nexts n) head (is.1 h lt).0 in
    let distinct : AreDistinct (pairs_in pairs (f ∷ slots_from 15 nexts (get_or nexts f 0))) = subst (λ (n : ℕ). AreDistinct (pairs_in pairs (slots_from 16 nexts n))) head (is.1 h lt).1 in
    let below : i < length pairs = omega (arith, is.0, among-below 16 nexts (suc f) i chain there) in
    let gone = leaves pairs i f js distinct there below in
    let here : (k : ℕ) → is_among k (slots_from 16 nexts (suc f)) ≡ true → is_among k (slots_from 16 nexts (get_or heads h 0)) ≡ true = λ k in-it. subst (λ (n : ℕ). is_among k (slots_from 16 nexts n) ≡ true) (sym head) in-it in
    let first : is_among f (slots_from 16 nexts (get_or heads h 0)) ≡ true = here f (among-first f js) in
    let others : (j : ℕ) → j < length heads → (j ≡ h → ⊥) → AreOutside nexts i f (get_or heads j 0) = λ j b other. (elsewhere place pairs nexts heads h j f is.2 lt b other first, elsewhere place pairs nexts heads h j i is.2 lt b other (here i there)) in
    let end = ended 15 nexts (get_or nexts f 0) chain.2 in
    let behind : is_among f (slots_from 16 nexts (get_or nexts f 0)) ≡ false = subst (λ (l : List ℕ). is_among f l ≡ false) (sym end) chain.1 in
    let new : bucket_from (set pairs i (get_or pairs f (0, 0))) (set nexts f free) (get_or nexts f 0) ≡ as_bucket (pairs_in (set pairs i (get_or pairs f (0, 0))) (slots_from 15 nexts (get_or nexts f 0))) = ap (λ (l : List ℕ). as_bucket (pairs_in (set pairs i (get_or pairs f (0, 0))) l)) (slots-set 16 nexts (get_or nexts f 0) f free behind ∙ end) in
    let whole : buckets_from (set pairs i (get_or pairs f (0, 0))) (set nexts f free) (set heads h (get_or nexts f 0)) ≡ set (buckets_from pairs nexts heads) h (as_bucket (pairs_in (set pairs i (get_or pairs f (0, 0))) (slots_from 15 nexts (get_or nexts f 0)))) = buckets-change pairs nexts heads h i f x free v lt others ∙ ap (λ (b : OrderedIndex). set (buckets_from pairs nexts heads) h b) new in
    let old : IsBucket place (0 + h) (bucket_from pairs nexts (suc f)) = subst (λ (b : OrderedIndex). IsBucket place (0 + h) b) (get-buckets pairs nexts heads h (as_bucket []) lt ∙ ap (λ (n : ℕ). bucket_from pairs nexts n) head) (bucket-at place 0 (buckets_from pairs nexts heads) h (as_bucket []) is.2 (omega (arith, lt, length-buckets pairs nexts heads))) in (
      whole,
      (
        omega (arith, is.0, length-set {A = Pair} pairs i x, length-set {A = ℕ} nexts f free),
        heads-set pairs nexts heads h i f x free v is.1 lt others (longer 15 (set nexts f free) v (chain-set 15 nexts v f free chain.1 chain.2)) (subst (λ (b : OrderedIndex). AreDistinct b.pairs) (sym new) gone.1),
        subst (λ (l : List OrderedIndex). AreBuckets place 0 l) (sym whole) (buckets-set place 0 (buckets_from pairs nexts heads) h (as_bucket (pairs_in (set pairs i x) js)) is.2 (bucket-less place (0 + h) (bucket_from pairs nexts (suc f)) (as_bucket (pairs_in (set pairs i x) js)) (get_or pairs i (0, 0)) old gone.0)),
        free-more nexts heads free h f is.3 lt head chain (λ j b other. (others j b other).0),
      ),
    )

-- what a table is and has after a pair has left
take-all : (place : ℕ → ℕ) (pairs : List Pair) (nexts heads : List ℕ) (free i f h : ℕ) → IsTable place pairs nexts heads free → h < length heads → get_or heads h 0 ≡ suc f → is_among i (slots_from 16 nexts (suc f)) ≡ true → IsTable place (set pairs i (get_or pairs f (0, 0))) (set nexts f free) (set heads h (get_or nexts f 0)) (suc f) × ((p : Pair) → is_in p (pairs_of (buckets_from (set pairs i (get_or pairs f (0, 0))) (set nexts f free) (set heads h (get_or nexts f 0)))) ≡ (not (is_pair p (get_or pairs i (0, 0))) && is_in p (pairs_of (buckets_from pairs nexts heads)))) × (length (pairs_of (buckets_from (set pairs i (get_or pairs f (0, 0))) (set nexts f free) (set heads h (get_or nexts f 0)))) + 1 ≡ length (pairs_of (buckets_from pairs nexts heads))) × (is_in (get_or pairs i (0, 0)) (pairs_of (buckets_from pairs nexts heads)) ≡ true)
take-all place pairs nexts heads free i f h is lt head there =
    let x = get_or pairs f (0, 0) in
    let q = get_or pairs i (0, 0) in
    let js = slots_from 15 nexts (get_or nexts f 0) in
    let buckets = buckets_from pairs nexts heads in
    let new = as_bucket (pairs_in (set pairs i (get_or pairs f (0, 0))) (slots_from 15 nexts (get_or nexts f 0))) in
    let taken = take-table place pairs nexts heads free i f h is lt head there in
    let chain : IsChain 16 nexts (suc f) = subst (λ (n : ℕ). IsChain 16 nexts n) head (is.1 h lt).0 in
    let distinct : AreDistinct (pairs_in pairs (f ∷ slots_from 15 nexts (get_or nexts f 0))) = subst (λ (n : ℕ). AreDistinct (pairs_in pairs (slots_from 16 nexts n))) head (is.1 h lt).1 in
    let below : i < length pairs = omega (arith, is.0, among-below 16 nexts (suc f) i chain there) in
    let gone = leaves pairs i f js distinct there below in
    let within : h < length (buckets_from pairs nexts heads) = omega (arith, lt, length-buckets pairs nexts heads) in
    let own : get_or (buckets_from pairs nexts heads) h (as_bucket []) ≡ bucket_from pairs nexts (suc f) = get-buckets pairs nexts heads h (as_bucket []) lt ∙ ap (λ (n : ℕ). bucket_from pairs nexts n) head in
    let at : place (get_or pairs i (0, 0)).0 ≡ h = place-of-slot place pairs nexts heads h i is.2 lt (subst (λ (n : ℕ). is_among i (slots_from 16 nexts n) ≡ true) (sym head) there) in
    let at-own : place (get_or pairs i (0, 0)).0 ≡ 0 + h = omega (arith, at) in
    let count : length (pairs_in (set pairs i (get_or pairs f (0, 0))) (slots_from 15 nexts (get_or nexts f 0))) + 1 ≡ length (bucket_from pairs nexts (suc f)).pairs = omega (arith, length-in (set pairs i x) js, length-in pairs js) in (
      taken.1,
      λ p. ap (λ (l : List OrderedIndex). is_in p (pairs_of l)) taken.0 ∙ less-set place 0 buckets h (as_bucket []) new p q is.2 within at-own (gone.0 p ∙ ap (λ (b : OrderedIndex). not (is_pair p (get_or pairs i (0, 0))) && is_in p b.pairs) (sym own)),
      omega (arith, ap (λ (l : List OrderedIndex). length (pairs_of l)) taken.0, length-set-one buckets h (as_bucket []) new within, ap (λ (b : OrderedIndex). length b.pairs) own, count),
      in-own place 0 buckets q h (as_bucket []) is.2 within at-own ∙ ap (λ (b : OrderedIndex). is_in (get_or pairs i (0, 0)) b.pairs) own ∙ in-slot pairs i (slots_from 16 nexts (suc f)) there,
    )

-- the first slot of a chain that passes one is a slot
pub head-below : (most : ℕ) (nexts : List ℕ) (head i : ℕ) → IsChain most nexts head → is_among i (slots_from most nexts head) ≡ true → head - 1 < length nexts
head-below zero nexts head i is there = absurd cc
head-below (suc most) nexts zero i is there = absurd cc
head-below (suc most) nexts (suc f) i is there = omega (arith, is.0)

-- the same, by the names of the code
pub take-at : (place : ℕ → ℕ) (pairs : List Pair) (nexts heads : List ℕ) (free i h head next : ℕ) (x q : Pair) → IsTable place pairs nexts heads free → h < length heads → head ≡ get_or heads h 0 → is_among i (slots_from 16 nexts head) ≡ true → get_or pairs i (0, 0) ≡ q → x ≡ get_or pairs (head - 1) (0, 0) → next ≡ get_or nexts (head - 1) 0 → IsTable place (set pairs i x) (set nexts (head - 1) free) (set heads h next) head × ((p : Pair) → is_in p (pairs_of (buckets_from (set pairs i x) (set nexts (head - 1) free) (set heads h next))) ≡ (not (is_pair p q) && is_in p (pairs_of (buckets_from pairs nexts heads)))) × (length (pairs_of (buckets_from (set pairs i x) (set nexts (head - 1) free) (set heads h next))) + 1 ≡ length (pairs_of (buckets_from pairs nexts heads))) × (is_in q (pairs_of (buckets_from pairs nexts heads)) ≡ true)
take-at place pairs nexts heads free i h zero next x q is lt head there value first after = absurd cc
take-at place pairs nexts heads free i h (suc f) next x q is lt head there value first after =
    let one : suc f - 1 ≡ f = omega arith in
    let own : x ≡ get_or pairs f (0, 0) = first ∙ ap (λ (k : ℕ). get_or pairs k (0, 0)) one in
    let then : next ≡ get_or nexts f 0 = after ∙ ap (λ (k : ℕ). get_or nexts k 0) one in
    rw (one, own, then, sym value) (take-all place pairs nexts heads free i f h is lt (sym head) there)

-- ---- where a pair is sought

-- a pair is in the table if it is in the chain of its place
pub in-table : (place : ℕ → ℕ) (pairs : List Pair) (nexts heads : List ℕ) (free h head : ℕ) (q : Pair) → IsTable place pairs nexts heads free → h < length heads → head ≡ get_or heads h 0 → place q.0 ≡ h → is_in q (pairs_of (buckets_from pairs nexts heads)) ≡ is_in q (pairs_in pairs (slots_from 16 nexts head))
in-table place pairs nexts heads free h head q is lt first at =
    let own : get_or (buckets_from pairs nexts heads) h (as_bucket []) ≡ bucket_from pairs nexts head = get-buckets pairs nexts heads h (as_bucket []) lt ∙ ap (λ (n : ℕ). bucket_from pairs nexts n) (sym first) in
    in-own place 0 (buckets_from pairs nexts heads) q h (as_bucket []) is.2 (omega (arith, lt, length-buckets pairs nexts heads)) (omega (arith, at)) ∙ ap (λ (b : OrderedIndex). is_in q b.pairs) own

-- so the next of a key is that of the chain
pub next-table : (place : ℕ → ℕ) (pairs : List Pair) (nexts heads : List ℕ) (free h head key after : ℕ) (next : Option ℕ) → IsTable place pairs nexts heads free → h < length heads → head ≡ get_or heads h 0 → place key ≡ h → IsNextOf key after (pairs_in pairs (slots_from 16 nexts head)) next → IsNextOf key after (pairs_of (buckets_from pairs nexts heads)) next
next-table place pairs nexts heads free h head key after next is lt first at e =
    next-alike key after (pairs_of (buckets_from pairs nexts heads)) (pairs_in pairs (slots_from 16 nexts head)) next (λ n. in-table place pairs nexts heads free h head (key, n) is lt first at) e

-- ---- at the start

-- from a link on there are slots below it
below-link : (nexts : List ℕ) (most i : ℕ) → AreLinkedBack nexts → most ≤ length nexts → is_among i (slots_from most nexts most) ≡ true → i < most
below-link nexts zero i are le there = absurd cc
below-link nexts (suc m) i are le there = go (below-link nexts m i are (omega arith)) (eqb i m) refl (sym (ap (λ (n : ℕ). is_among i (m ∷ slots_from m nexts n)) (are m (omega arith))) ∙ there)
  where
    go : (is_among i (slots_from m nexts m) ≡ true → i < m) → (b : Bool) → eqb i m ≡ b → (b || is_among i (slots_from m nexts m)) ≡ true → i < suc m
    go later true e h = let same : i ≡ m = grind (arith, nat_tests) in omega arith
    go later false e h = let lt = later h in omega arith

-- they are a chain
linked-chain : (nexts : List ℕ) (most : ℕ) → AreLinkedBack nexts → most ≤ length nexts → IsChain most nexts most
linked-chain nexts zero are le = refl
linked-chain nexts (suc m) are le = (omega arith, rw (are m (omega arith)) (out (is_among m (slots_from m nexts m)) refl), rw (are m (omega arith)) (linked-chain nexts m are (omega arith)))
  where
    out : (b : Bool) → is_among m (slots_from m nexts m) ≡ b → b ≡ false
    out false e = refl
    out true e = absurd (let lt = below-link nexts m m are (omega arith) e in omega arith)

-- no pair is in a chain
no-buckets : (pairs : List Pair) (nexts heads : List ℕ) → ((h : ℕ) → h < length heads → get_or heads h 0 ≡ 0) → AllByRecursion (λ b. b.pairs ≡ []) (buckets_from pairs nexts heads)
no-buckets pairs nexts [] zeros = tt
no-buckets pairs nexts (link ∷ links) zeros = (ap (λ (l : List ℕ). pairs_in pairs l) (no-slots 16 nexts link (zeros 0 (omega arith))), no-buckets pairs nexts links (λ h lt. zeros (suc h) (omega arith)))

-- a table whose heads lead nowhere
pub new-table : (place : ℕ → ℕ) (pairs : List Pair) (nexts heads : List ℕ) (free : ℕ) → length pairs ≡ length nexts → free ≡ length nexts → AreLinkedBack nexts → ((h : ℕ) → h < length heads → get_or heads h 0 ≡ 0) → IsTable place pairs nexts heads free × (pairs_of (buckets_from pairs nexts heads) ≡ [])
new-table place pairs nexts heads free both all are zeros =
    let none : (h : ℕ) → h < length heads → slots_from 16 nexts (get_or heads h 0) ≡ [] = λ h lt. no-slots 16 nexts (get_or heads h 0) (zeros h lt) in (
      (
        both,
        λ h lt. (no-chain 16 nexts (get_or heads h 0) (zeros h lt), subst (λ (l : List ℕ). AreDistinct (pairs_in pairs l)) (sym (none h lt)) tt),
        empty-buckets place 0 (buckets_from pairs nexts heads) (no-buckets pairs nexts heads zeros),
        (free, linked-chain nexts free are (omega arith), λ i h there lt. ap (λ (l : List ℕ). is_among i l) (none h lt)),
      ),
      empty-pairs (buckets_from pairs nexts heads) (no-buckets pairs nexts heads zeros),
    )
