-- Addresses as numbers: their order is that of their bytes.
use Rattle.std.proofs.Common.{◌≡◌, ℕ, zero, suc, ◌+◌, ◌*◌, ◌^◌, ◌<◌, ◌≤◌, List, [], ◌∷◌, length, get_or, refl, sym, ap, ◌∙◌, arith}
use Rattle.std.specs.declared.cmp.Ordering.{Ordering}
use Rattle.std.specs.declared.cmp.Ordering.TheVariants.{Less, Equal, Greater}
use Rattle.std.specs.Ordering.{nat_cmp, ordering_then}
use Rattle.std.specs.Int.{w32, w128, from_be_bytes}
use Rattle.std.specs.Cmp.{nat_cmp_is, ranked}
use Rattle.std.specs.Cmp.Lexicographic.{slice_cmp}
use Rattle.std.proofs.Math.Nat.{mul-le-mul_right}

-- the number of n bytes, the highest first, from a place on
abbrev number : ℕ → ℕ → List ℕ → ℕ
number zero i bytes = 0
number (suc n) i bytes = get_or bytes i 0 * 256 ^ n + number n (suc i) bytes

-- that of the rest of a list
number-cons : (n i b : ℕ) (bytes : List ℕ) → number n (suc i) (b ∷ bytes) ≡ number n i bytes
number-cons zero i b bytes = refl
number-cons (suc n) i b bytes = ap (λ (m : ℕ). get_or bytes i 0 * 256 ^ n + m) (number-cons n (suc i) b bytes)

-- it is below the power that comes next
number-below : (n i : ℕ) (bytes : List ℕ) → ((k : ℕ) → get_or bytes k 0 < 256) → number n i bytes < 256 ^ n
number-below zero i bytes small = omega arith
number-below (suc n) i bytes small =
    let byte = small i in
    let rest = number-below n (suc i) bytes small in
    let top : (get_or bytes i 0 + 1) * 256 ^ n ≤ 256 * 256 ^ n = mul-le-mul_right (256 ^ n) (omega (arith, byte)) in
    omega (arith, rest, top)

-- numbers of a high and a low part are in the order of the high ones, and then of the low ones
parts-cmp : (x y p u v : ℕ) → u < p → v < p → nat_cmp (x * p + u) (y * p + v) ≡ ordering_then (nat_cmp x y) (nat_cmp u v)
parts-cmp x y p u v low other = sym (go (nat_cmp x y) refl)
  where
    go : (o : Ordering) → nat_cmp x y ≡ o → ordering_then o (nat_cmp u v) ≡ nat_cmp (x * p + u) (y * p + v)
    go Less is =
        let below : x < y = ranked x y Less (sym is) in
        let times : (x + 1) * p ≤ y * p = mul-le-mul_right p (omega (arith, below)) in
        nat_cmp_is (x * p + u) (y * p + v) Less (omega (arith, times))
    go Greater is =
        let above : y < x = ranked x y Greater (sym is) in
        let times : (y + 1) * p ≤ x * p = mul-le-mul_right p (omega (arith, above)) in
        nat_cmp_is (x * p + u) (y * p + v) Greater (omega (arith, times))
    go Equal is =
        let same : x ≡ y = ranked x y Equal (sym is) in
        rw same (next (nat_cmp u v) refl)
      where
        next : (o : Ordering) → nat_cmp u v ≡ o → o ≡ nat_cmp (y * p + u) (y * p + v)
        next Less is = nat_cmp_is (y * p + u) (y * p + v) Less (let less : u < v = ranked u v Less (sym is) in omega (arith, less))
        next Equal is = nat_cmp_is (y * p + u) (y * p + v) Equal (let one : u ≡ v = ranked u v Equal (sym is) in omega (arith, one))
        next Greater is = nat_cmp_is (y * p + u) (y * p + v) Greater (let more : v < u = ranked u v Greater (sym is) in omega (arith, more))

-- lists of as many bytes are in the order of their numbers
bytes-cmp : (n : ℕ) (a b : List ℕ) → length a ≡ n → length b ≡ n → ((k : ℕ) → get_or a k 0 < 256) → ((k : ℕ) → get_or b k 0 < 256) → nat_cmp (number n 0 a) (number n 0 b) ≡ slice_cmp nat_cmp a b
bytes-cmp zero [] [] long as_long small other = refl
bytes-cmp zero (x ∷ a) b long as_long small other = absurd (omega arith)
bytes-cmp zero [] (y ∷ b) long as_long small other = absurd (omega arith)
bytes-cmp (suc n) [] b long as_long small other = absurd (omega arith)
bytes-cmp (suc n) (x ∷ a) [] long as_long small other = absurd (omega arith)
bytes-cmp (suc n) (x ∷ a) (y ∷ b) long as_long small other =
    rw (number-cons n 0 x a, number-cons n 0 y b)
    (parts-cmp x y (256 ^ n) (number n 0 a) (number n 0 b) (number-below n 0 a (λ k. small (suc k))) (number-below n 0 b (λ k. other (suc k)))
    ∙ ap (ordering_then (nat_cmp x y)) (bytes-cmp n a b (omega arith) (omega arith) (λ k. small (suc k)) (λ k. other (suc k))))

-- IPv4 addresses
pub v4-cmp : (a b : List ℕ) (x y : ℕ) → length a ≡ 4 → length b ≡ 4 → ((k : ℕ) → get_or a k 0 < 256) → ((k : ℕ) → get_or b k 0 < 256) → x ≡ from_be_bytes w32 a → y ≡ from_be_bytes w32 b → nat_cmp x y ≡ slice_cmp nat_cmp a b
v4-cmp a b x y long as_long small other first second =
    let one : x ≡ number 4 0 a = omega (arith, first) in
    let two : y ≡ number 4 0 b = omega (arith, second) in
    rw (one, two) (bytes-cmp 4 a b long as_long small other)

-- IPv6 addresses
pub v6-cmp : (a b : List ℕ) (x y : ℕ) → length a ≡ 16 → length b ≡ 16 → ((k : ℕ) → get_or a k 0 < 256) → ((k : ℕ) → get_or b k 0 < 256) → x ≡ from_be_bytes w128 a → y ≡ from_be_bytes w128 b → nat_cmp x y ≡ slice_cmp nat_cmp a b
v6-cmp a b x y long as_long small other first second =
    let one : x ≡ number 16 0 a = omega (arith, first) in
    let two : y ≡ number 16 0 b = omega (arith, second) in
    rw (one, two) (bytes-cmp 16 a b long as_long small other)
