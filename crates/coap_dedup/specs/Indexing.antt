-- The index of a ring of records.
use Rattle.std.specs.Prelude.{◌≡◌, ℕ, ◌+◌, ◌%◌, ◌^◌, if◌then◌else◌, List, [], ◌∷◌, Option, Some, None}
use Rattle.std.specs.declared.cmp.Ordering.{Ordering}
use Rattle.std.specs.BTreeMap.{BTreeMap, get}
use Rattle.std.specs.Option.{option_or}
use Rattle.coap_dedup.specs.declared.key.Key.{Key}
use Rattle.coap_dedup.specs.declared.numbers.Numbers.{Numbers}
use Rattle.coap_dedup.specs.declared.record.Record.{Record}
use Rattle.coap_dedup.specs.contracts.key.KeyOrd.TheImpl as order
use Rattle.coap_dedup.specs.Lists.{is_of}
use Rattle.coap_dedup.specs.Records.{Records, AreRecords}
use Rattle.coap_dedup.specs.Sources.{AreSourced}

-- the order of the keys in the index
abbrev pub key_cmp : Key → Key → Ordering
key_cmp = (order.ghosts).cmp

-- an index: the number of each key in it
abbrev pub Index : Type 0
Index = BTreeMap Key ℕ

-- The number of the last record with a key, if the first record has this number and each further
-- one has the next. Numbers wrap around to 0 after the greatest that fits in 64 bits.
abbrev pub number_of : ℕ → Key → List Record → Option ℕ
number_of n key [] = None
number_of n key (r ∷ rs) =
    option_or
    (number_of (n + 1) key rs)
    (if is_of key.from key.id r then Some (n % 2 ^ 64) else None)

-- The index holds the numbers of these records, and no others. That of the first is `first`, which
-- is a number that only counts up, modulo 2^64.
pub record AreNumbered (first : ℕ) (index : Index) (records : List Record) : Type 0 where
  pub origin : ℕ
  pub is_first : first ≡ origin % 2 ^ 64
  pub numbered : (key : Key) → get key_cmp index key ≡ number_of origin key records

-- they are the numbers of these records, by message and by source
pub record AreNumbersOf (numbers : Numbers) (records : List Record) : Type 0 where
  pub by_message : AreNumbered numbers.first numbers.by_message records
  pub by_source : AreSourced numbers.first numbers.by_source records

-- what holds for the records in a ring and for their numbers
pub record AreIndexed (t : Records) (all : Numbers) : Type 0 where
  pub are : AreRecords t
  pub numbers : AreNumbersOf all t.items
  pub room : all.by_source.nexts.capacity ≡ t.limit + 1
