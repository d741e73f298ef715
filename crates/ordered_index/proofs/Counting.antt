-- HashedIndex: how many pairs among the rest belong to each bucket.
use Rattle.std.proofs.Common.{◌≡◌, ℕ, zero, suc, ◌+◌, ◌-◌, ◌<◌, ◌≤◌, ◌∙◌, ◌||◌, Bool, cond, eqb, List, [], ◌∷◌, true, false, ap, refl, sym, subst, length, get_or, set, length-set, arith}
use Rattle.std.specs.Prelude.{count_by, replicate}
use Rattle.std.proofs.lemmas.Bool.Decides.{nat_tests}
use Rattle.std.proofs.lemmas.List.{get_or-set_same, get_or-set_other, get_or-replicate, length-replicate}
use Rattle.std.proofs.lemmas.List.Sums.{count_by-le-length, sum_by-cons}
use Rattle.ordered_index.specs.Hashed.{many_for, AreCounts}
use Rattle.ordered_index.specs.Ordered.{Pair, is_in, is_pair, one_if}
use Rattle.ordered_index.proofs.Ordering.{pair_only}

-- one more is counted, or not
count-cons : (f : Pair → Bool) (x : Pair) (xs : List Pair) → count_by f (x ∷ xs) ≡ one_if (f x) + count_by f xs
count-cons f x xs = sum_by-cons (λ (p : Pair). cond (f p) 1 0) x xs

-- none of a kind is there of which none is counted
pub none-counted : (f : Pair → Bool) (q : Pair) (xs : List Pair) → count_by f xs ≡ 0 → f q ≡ true → is_in q xs ≡ false
none-counted f q [] none is = refl
none-counted f q (x ∷ xs) none is = go (is_pair q x) refl (none-counted f q xs (omega (arith, count-cons f x xs)) is)
  where
    go : (b : Bool) → is_pair q x ≡ b → is_in q xs ≡ false → (b || is_in q xs) ≡ false
    go true e behind =
        let same : f x ≡ true = subst (λ (y : Pair). f y ≡ true) (pair_only q x e) is in
        let one : one_if (f x) ≡ 1 = ap one_if same in
        absurd (omega (arith, count-cons f x xs))
    go false e behind = behind

-- a key has no pair where none belongs to its bucket
pub none-outside : (place : ℕ → ℕ) (counts : List ℕ) (pairs : List Pair) (key number b : ℕ) → AreCounts place counts pairs → b < length counts → get_or counts b 0 ≡ 0 → place key ≡ b → is_in (key, number) pairs ≡ false
none-outside place counts pairs key number b are lt none is =
    none-counted (λ p. eqb (place p.0) b) (key, number) pairs (sym (are b lt) ∙ none) (grind (arith, nat_tests))

-- no more are counted than there are
pub counted-within : (place : ℕ → ℕ) (counts : List ℕ) (pairs : List Pair) (b : ℕ) → AreCounts place counts pairs → b < length counts → get_or counts b 0 ≤ length pairs
counted-within place counts pairs b are lt = omega (arith, are b lt, count_by-le-length (λ (p : Pair). eqb (place p.0) b) pairs)

-- a pair counts for its own bucket
for-own : (place : ℕ → ℕ) (q : Pair) (b : ℕ) → place q.0 ≡ b → one_if (eqb (place q.0) b) ≡ 1
for-own place q b is = let own : eqb (place q.0) b ≡ true = grind (arith, nat_tests) in ap one_if own

-- and for no other
for-other : (place : ℕ → ℕ) (q : Pair) (b i : ℕ) → place q.0 ≡ b → (i ≡ b → ⊥) → one_if (eqb (place q.0) i) ≡ 0
for-other place q b i is other =
    let differ : place q.0 ≡ i → ⊥ = λ e. other (omega arith) in
    let another : eqb (place q.0) i ≡ false = grind (arith, nat_tests) in
    ap one_if another

-- where pairs of one bucket alone came or left, its count alone is another
counts-set : (place : ℕ → ℕ) (counts : List ℕ) (old new : List Pair) (b v : ℕ) → AreCounts place counts old → b < length counts → v ≡ many_for place b new → ((i : ℕ) → (i ≡ b → ⊥) → many_for place i new ≡ many_for place i old) → AreCounts place (set counts b v) new
counts-set place counts old new b v are lt is others = λ i below. go i (omega (arith, length-set {A = ℕ})) (eqb i b) refl
  where
    go : (i : ℕ) → i < length counts → (same : Bool) → eqb i b ≡ same → get_or (set counts b v) i 0 ≡ many_for place i new
    go i below true e =
        let at : b ≡ i = grind (arith, nat_tests) in
        subst (λ (k : ℕ). get_or (set counts b v) k 0 ≡ many_for place k new) at (get_or-set_same counts b v 0 lt ∙ is)
    go i below false e =
        let other : i ≡ b → ⊥ = grind (arith, nat_tests) in
        get_or-set_other counts b i v 0 other ∙ are i below ∙ sym (others i other)

-- none is counted where none is there
pub counts-empty : (place : ℕ → ℕ) (counts : List ℕ) (pairs : List Pair) (many : ℕ) → counts ≡ replicate many 0 → pairs ≡ [] → AreCounts place counts pairs
counts-empty place counts pairs many zeros none = λ i lt.
    let below : i < many = omega (arith, ap length zeros, length-replicate {A = ℕ} many 0) in
    rw (zeros, none) (get_or-replicate many i 0 0 below)

-- the counts where a pair comes
pub counts-more : (place : ℕ → ℕ) (counts : List ℕ) (pairs more : List Pair) (q : Pair) (b v : ℕ) → AreCounts place counts pairs → ((f : Pair → Bool) → count_by f more ≡ count_by f pairs + one_if (f q)) → place q.0 ≡ b → b < length counts → v ≡ get_or counts b 0 + 1 → AreCounts place (set counts b v) more
counts-more place counts pairs more q b v are e is lt one =
    counts-set place counts pairs more b v are lt
    (omega (arith, are b lt, e (λ p. eqb (place p.0) b), for-own place q b is))
    (λ i other. omega (arith, e (λ p. eqb (place p.0) i), for-other place q b i is other))

-- and where one leaves
pub counts-less : (place : ℕ → ℕ) (counts : List ℕ) (pairs less : List Pair) (q : Pair) (b v : ℕ) → AreCounts place counts pairs → ((f : Pair → Bool) → count_by f less + one_if (f q) ≡ count_by f pairs) → place q.0 ≡ b → b < length counts → v ≡ get_or counts b 0 - 1 → AreCounts place (set counts b v) less
counts-less place counts pairs less q b v are e is lt one =
    counts-set place counts pairs less b v are lt
    (omega (arith, are b lt, e (λ p. eqb (place p.0) b), for-own place q b is))
    (λ i other. omega (arith, e (λ p. eqb (place p.0) i), for-other place q b i is other))

-- a pair that is there is counted
pub counted-some : (place : ℕ → ℕ) (counts : List ℕ) (pairs : List Pair) (q : Pair) (b : ℕ) → AreCounts place counts pairs → is_in q pairs ≡ true → place q.0 ≡ b → b < length counts → 0 < get_or counts b 0
counted-some place counts pairs q b are there is lt = go (get_or counts b 0) refl
  where
    go : (n : ℕ) → get_or counts b 0 ≡ n → 0 < n
    go zero none = absurd (let out = none-outside place counts pairs q.0 q.1 b are lt none is in cc)
    go (suc n) some = omega arith
