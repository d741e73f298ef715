-- Integers in network byte order.
use Rattle.std.proofs.Common.{◌≡◌, ◌≢◌, ℕ, zero, suc, ◌+◌, ◌*◌, ◌^◌, ◌<◌, ◌≤◌, List, [], ◌∷◌, length, get_or, drop, refl, sym, ap, ◌∙◌, add-one, inl, inr, arith}
use Rattle.std.specs.Int.{w64, to_be_bytes, from_be_bytes}
use Rattle.std.proofs.Math.Nat.{pow-suc, pow-le-pow_right, mul-le-mul_right}
use Rattle.std.proofs.lemmas.List.{drop_more}
use Rattle.std.proofs.lemmas.Bool.{cases_lt, cases_order}
use Rattle.std.proofs.lemmas.Nat.{same_from_place, from_be_bytes-to_be_bytes_8}
use Rattle.coap_message.specs.Uint.{IsBytes, uint_of, without_zeros, uint_spelling, IsShortest}

-- one byte more
pub uint_step : (number i b : ℕ) (value : List ℕ) → i < length value → b ≡ get_or value i 0 → number * 256 ^ length (drop i value) + uint_of (drop i value) ≡ uint_of value
    → (256 * number + b) * 256 ^ length (drop (i + 1) value) + uint_of (drop (i + 1) value) ≡ uint_of value
uint_step number i b value lt b_is so_far =
    let next : drop i value ≡ b ∷ drop (i + 1) value = drop_more value i 0 lt ∙ ap (λ (x : ℕ). x ∷ drop (i + 1) value) (sym b_is) in
    regroup (256 ^ length (drop (i + 1) value)) (uint_of (drop (i + 1) value)) ∙ sym (ap (λ (n : ℕ). number * n + (b * 256 ^ length (drop (i + 1) value) + uint_of (drop (i + 1) value))) (pow-suc 256 (length (drop (i + 1) value))))
    ∙ sym (ap (λ (l : List ℕ). number * 256 ^ length l + uint_of l) next) ∙ so_far
  where
    regroup : (p r : ℕ) → (256 * number + b) * p + r ≡ number * (p * 256) + (b * p + r)
    regroup p r = omega arith

-- one byte more is one power of 256 more
pub uint_below : (number i b : ℕ) → number < 256 ^ i → b < 256 → 256 * number + b < 256 ^ (i + 1)
uint_below number i b lt small = rw (add-one i, pow-suc 256 i) (omega arith)

-- and up to eight bytes fit 64 bits
pub uint_fits : (number i b : ℕ) (value : List ℕ) → i < length value → length value ≤ 8 → number < 256 ^ i → b < 256 → 256 * number + b < 2 ^ 64
uint_fits number i b value lt short below small =
    let one = uint_below number i b below small in
    let most : 256 ^ (i + 1) ≤ 256 ^ 8 = pow-le-pow_right {n = 256} (omega arith) {i = i + 1} {j = 8} (omega arith) in
    omega (arith, one, most)

-- zeros at the head count for nothing
uint-without_zeros : (bytes : List ℕ) → uint_of (without_zeros bytes) ≡ uint_of bytes
uint-without_zeros [] = refl
uint-without_zeros (zero ∷ bytes) = uint-without_zeros bytes ∙ omega arith
uint-without_zeros (suc b ∷ bytes) = refl

-- eight bytes stand for the number that the standard library reads in them
uint_of_eight : (n : ℕ) → uint_of (to_be_bytes w64 n) ≡ from_be_bytes w64 (to_be_bytes w64 n)
uint_of_eight n = omega arith

-- the spelling stands for the number
pub uint-uint_spelling : (n : ℕ) → n < 2 ^ 64 → uint_of (uint_spelling n) ≡ n
unfolding uint_spelling
uint-uint_spelling n lt = uint-without_zeros (to_be_bytes w64 n) ∙ uint_of_eight n ∙ from_be_bytes-to_be_bytes_8 n lt

-- without zeros at its head a form is the shortest
shortest : (bytes : List ℕ) → IsShortest (without_zeros bytes)
shortest [] = tt
shortest (zero ∷ bytes) = shortest bytes
shortest (suc b ∷ bytes) = λ e. cc

-- so a spelling is
pub uint_spelling-shortest : (n : ℕ) → IsShortest (uint_spelling n)
unfolding uint_spelling
uint_spelling-shortest n = shortest (to_be_bytes w64 n)

-- ---- one shortest form

-- so many bytes stand for a number below so many powers of 256
pub uint_bound : (bytes : List ℕ) → IsBytes bytes → uint_of bytes < 256 ^ length bytes
uint_bound [] fits = omega arith
uint_bound (b ∷ bytes) fits =
    let rest = uint_bound bytes (λ i. fits (suc i)) in
    let byte : b < 256 = fits 0 in
    rw (pow-suc 256 (length bytes)) (at (256 ^ length bytes) rest byte)
  where
    at : (p : ℕ) → uint_of bytes < p → b < 256 → b * p + uint_of bytes < p * 256
    at p rest byte = let most : b * p ≤ 255 * p = mul-le-mul_right p (omega arith) in omega arith

-- without a zero at its head a form stands for at least so much
uint_large : (b : ℕ) (bytes : List ℕ) → b ≢ 0 → 256 ^ length bytes ≤ uint_of (b ∷ bytes)
uint_large b bytes positive =
    let most = mul-le-mul_right {m = 1} {n = b} (256 ^ length bytes) (omega arith) in
    omega (arith, most)

-- bytes of one length that stand for one number are the same
same_length : (a b : List ℕ) → IsBytes a → IsBytes b → length a ≡ length b → uint_of a ≡ uint_of b → a ≡ b
same_length [] [] fa fb len e = refl
same_length [] (y ∷ ys) fa fb len e = absurd (omega arith)
same_length (x ∷ xs) [] fa fb len e = absurd (omega arith)
same_length (x ∷ xs) (y ∷ ys) fa fb len e =
    let tails : length xs ≡ length ys = omega arith in
    let a : uint_of xs < 256 ^ length xs = uint_bound xs (λ i. fa (suc i)) in
    let b : uint_of ys < 256 ^ length xs = rw tails (uint_bound ys (λ i. fb (suc i))) in
    let both : x * 256 ^ length xs + uint_of xs ≡ y * 256 ^ length xs + uint_of ys = e ∙ ap (λ (n : ℕ). y * 256 ^ n + uint_of ys) (sym tails) in
    let same = same_from_place x (uint_of xs) y (uint_of ys) (256 ^ length xs) a b both in
    let rest = same_length xs ys (λ i. fa (suc i)) (λ i. fb (suc i)) tails same.1 in
    let head : x ≡ y = same.0 in
    cc

-- a shorter form never stands for as much as one without a zero at its head
shorter_less : (a bytes : List ℕ) (b : ℕ) → IsBytes a → b ≢ 0 → length a ≤ length bytes → uint_of a ≡ uint_of (b ∷ bytes) → ⊥
shorter_less a bytes b fits positive le e =
    let bound = uint_bound a fits in
    let large = uint_large b bytes positive in
    let powers : 256 ^ length a ≤ 256 ^ length bytes = pow-le-pow_right {n = 256} (omega arith) {i = length a} {j = length bytes} le in
    omega (arith, bound, large, powers, e)

-- a number has one shortest form
pub one_shortest : (a b : List ℕ) → IsBytes a → IsBytes b → IsShortest a → IsShortest b → uint_of a ≡ uint_of b → a ≡ b
one_shortest [] [] fa fb sa sb e = refl
one_shortest [] (y ∷ ys) fa fb sa sb e = absurd (shorter_less [] ys y fa sb (omega arith) e)
one_shortest (x ∷ xs) [] fa fb sa sb e = absurd (shorter_less [] xs x fb sa (omega arith) (sym e))
one_shortest (x ∷ xs) (y ∷ ys) fa fb sa sb e =
    elim (cases_order (length xs) (length ys)) [
      | inl same ↦ same_length (x ∷ xs) (y ∷ ys) fa fb (omega arith) e
      | inr other ↦
          elim other [
            | inl less ↦ absurd (shorter_less (x ∷ xs) ys y fa sb (omega arith) e)
            | inr more ↦ absurd (shorter_less (y ∷ ys) xs x fb sa (omega arith) (sym e))
          ]
    ]

-- a number below 2 ^ 32 has at most four bytes
pub uint_spelling-four : (n : ℕ) → n < 2 ^ 32 → length (uint_spelling n) ≤ 4
uint_spelling-four n small = go (uint_spelling n) (uint_spelling-shortest n) (uint-uint_spelling n (omega arith))
  where
    go : (bytes : List ℕ) → IsShortest bytes → uint_of bytes ≡ n → length bytes ≤ 4
    go [] shortest e = omega arith
    go (b ∷ bytes) positive e =
        elim (cases_lt (length bytes) 4) [
          | inl lt ↦ omega arith
          | inr ge ↦ let large = uint_large b bytes positive in let powers : 256 ^ 4 ≤ 256 ^ length bytes = pow-le-pow_right {n = 256} (omega arith) {i = 4} {j = length bytes} ge in absurd (omega (arith, large, powers, e))
        ]
