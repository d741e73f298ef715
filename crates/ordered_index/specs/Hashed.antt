-- Indexes by key: buckets, each with the pairs of the keys of one place, and the rest.
use Rattle.std.specs.Prelude.{◌≡◌, ℕ, suc, bit_or, bit_xor, ◌*◌, ◌/◌, ◌%◌, ◌^◌, ◌==◌, ◌<◌, min, true, false, count_by, length, slice_index, List, [], ◌∷◌, ◌++◌, Option, Some, None}
use Rattle.std.specs.Hash.{u64}
use Rattle.std.specs.Hash.DefaultHasher as sip
use Rattle.std.specs.List.{fold}
use Rattle.ordered_index.specs.Ordered.{Pair, OrderedIndex, is_in}

-- the pairs of all buckets, one after the other
abbrev pub pairs_of : List OrderedIndex → List Pair
pairs_of [] = []
pairs_of (bucket ∷ buckets) = bucket.pairs ++ pairs_of buckets

-- what a table holds, and the factor that spreads it
pub record Spread : Type 0 where
  pub pairs : List Pair
  pub factor : ℕ

-- the factor that a seed gives: its SipHash, made odd
unfoldable pub factor_of : ℕ → ℕ
factor_of seed = bit_or (sip.finish (fold sip.write sip.initial (u64 seed))) 1

-- a product of 64 bits
abbrev pub times : ℕ → ℕ → ℕ
times factor n = n * factor % 2 ^ 64

-- 64 bits, the upper half of which has joined the lower one
abbrev pub folded : ℕ → ℕ
folded n = bit_xor n (n / 2 ^ 32)

-- the place of a key, of `many`: a factor spreads the keys, twice, over 64 bits, of which each place
-- has an equal part
abbrev pub place_of : ℕ → ℕ → ℕ → ℕ
place_of factor many key = times factor (folded (times factor key)) * many / 2 ^ 64

-- the pairs of the bucket of this number belong there
abbrev pub IsBucket : (ℕ → ℕ) → ℕ → OrderedIndex → Type 0
IsBucket place number bucket = (p : Pair) → is_in p bucket.pairs ≡ true → place p.0 ≡ number

-- and so do those of each of these, whose numbers begin with this one
abbrev pub AreBuckets : (ℕ → ℕ) → ℕ → List OrderedIndex → Type 0
AreBuckets place number [] = Unit {0}
AreBuckets place number (bucket ∷ buckets) =
    IsBucket place number bucket × AreBuckets place (suc number) buckets

-- no pair is there twice
abbrev pub AreDistinct : List Pair → Type 0
AreDistinct [] = Unit {0}
AreDistinct (p ∷ ps) = (is_in p ps ≡ false) × AreDistinct ps

-- no pair is in both
abbrev pub AreApart : List Pair → List Pair → Type 0
AreApart xs ys = (p : Pair) → is_in p ys ≡ true → is_in p xs ≡ false

-- the number of these pairs whose keys have this place
abbrev pub many_for : (ℕ → ℕ) → ℕ → List Pair → ℕ
many_for place number pairs = count_by (λ p. place p.0 == number) pairs

-- these are, for each place, the number of these pairs whose keys have it
abbrev pub AreCounts : (ℕ → ℕ) → List ℕ → List Pair → Type 0
AreCounts place counts pairs =
    (i : ℕ) → i < length counts → slice_index counts i ≡ many_for place i pairs

-- the lower of two numbers, if there is one
abbrev pub lower : Option ℕ → Option ℕ → Option ℕ
lower None b = b
lower (Some a) None = Some a
lower (Some a) (Some b) = Some (min a b)
