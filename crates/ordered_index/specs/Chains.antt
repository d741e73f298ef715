-- Chains of slots: each slot has a pair, and a link to the slot after it. The link 0 leads nowhere,
-- and the link i + 1 to the slot i.
use Rattle.std.specs.Prelude.{◌≡◌, ℕ, zero, suc, ◌==◌, ◌<◌, ◌||◌, Bool, true, false, length, slice_index, slice_index_or, List, [], ◌∷◌}
use Rattle.ordered_index.specs.Hashed.{AreBuckets, AreDistinct}
use Rattle.ordered_index.specs.Ordered.{Pair, OrderedIndex, is_in}

-- the most slots of a chain of pairs
abbrev pub chain_room : ℕ
chain_room = 16

-- the slots from a link on, but no more than this many
abbrev pub slots_from : ℕ → List ℕ → ℕ → List ℕ
slots_from zero nexts link = []
slots_from (suc most) nexts zero = []
slots_from (suc most) nexts (suc i) = i ∷ slots_from most nexts (slice_index nexts i)

abbrev pub is_among : ℕ → List ℕ → Bool
is_among i [] = false
is_among i (j ∷ js) = (i == j) || is_among i js

-- from a link on there are no more than this many slots, and none comes twice
abbrev pub IsChain : ℕ → List ℕ → ℕ → Type 0
IsChain zero nexts link = link ≡ 0
IsChain (suc most) nexts zero = Unit {0}
IsChain (suc most) nexts (suc i) =
    (i < length nexts)
    × (is_among i (slots_from most nexts (slice_index nexts i)) ≡ false)
    × IsChain most nexts (slice_index nexts i)

-- the pairs of some slots
abbrev pub pairs_in : List Pair → List ℕ → List Pair
pairs_in pairs [] = []
pairs_in pairs (i ∷ is) = slice_index_or pairs i (0, 0) ∷ pairs_in pairs is

-- the pairs from a link on
abbrev pub bucket_from : List Pair → List ℕ → ℕ → OrderedIndex
bucket_from pairs nexts link =
    record {
      pairs = pairs_in pairs (slots_from chain_room nexts link);
      limit = chain_room;
      seed = 0;
    }

-- those from each of these links on
abbrev pub buckets_from : List Pair → List ℕ → List ℕ → List OrderedIndex
buckets_from pairs nexts [] = []
buckets_from pairs nexts (link ∷ links) =
    bucket_from pairs nexts link ∷ buckets_from pairs nexts links

-- these links lead to chains, in which no pair is there twice
abbrev pub AreHeads : List Pair → List ℕ → List ℕ → Type 0
AreHeads pairs nexts heads =
    (h : ℕ)
    → h < length heads
    → IsChain chain_room nexts (slice_index heads h)
    × AreDistinct (bucket_from pairs nexts (slice_index heads h)).pairs

-- from this link on there are slots that are in no chain of these links
abbrev pub IsFree : List ℕ → List ℕ → ℕ → Type 0
IsFree nexts heads free =
    (most : ℕ)
    × IsChain most nexts free
    × ((i h : ℕ)
    → is_among i (slots_from most nexts free) ≡ true
    → h < length heads
    → is_among i (slots_from chain_room nexts (slice_index heads h)) ≡ false)

-- the pairs of each of these chains have its place, and from the free link on no slot has a pair
abbrev pub IsTable : (ℕ → ℕ) → List Pair → List ℕ → List ℕ → ℕ → Type 0
IsTable place pairs nexts heads free =
    (length pairs ≡ length nexts)
    × AreHeads pairs nexts heads
    × AreBuckets place 0 (buckets_from pairs nexts heads)
    × IsFree nexts heads free

-- each slot has a link to the one before it
abbrev pub AreLinkedBack : List ℕ → Type 0
AreLinkedBack nexts = (i : ℕ) → i < length nexts → slice_index nexts i ≡ i

-- a slot has a pair of this key, and of those from a link on none of that key comes before it
abbrev pub IsFirstOf : ℕ → List Pair → List ℕ → ℕ → ℕ → Type 0
IsFirstOf key pairs nexts link slot =
    (slot < length nexts)
    × ((slice_index_or pairs slot (0, 0)).0 ≡ key)
    × IsChain chain_room nexts (slice_index nexts slot)
    × ((n : ℕ)
    → is_in (key, n) (pairs_in pairs (slots_from chain_room nexts link))
    ≡ is_in
    (key, n)
    (pairs_in pairs (slot ∷ slots_from chain_room nexts (slice_index nexts slot))))
