-- Records of messages that were seen, as a list in the order in which they were kept (RFC 7252,
-- 4.5).
use Rattle.std.specs.Prelude.{◌≡◌, ℕ, ◌≤◌, ◌==◌, ◌&&◌, Bool, List, [], ◌∷◌, ◌++◌, length, filter, find, Option, None}
use Rattle.std.specs.List.{AllByRecursion, sum_by}
use Rattle.std.specs.Option.{option_map_or}
use Rattle.coap_endpoint.specs.declared.endpoint.Endpoint.{Endpoint}
use Rattle.coap_endpoint.specs.Endpoint.{same_endpoint}
use Rattle.coap_dedup.specs.declared.record.Record.{Record}
use Rattle.coap_dedup.specs.Lifetimes.{lives}

-- the record is live at this time
abbrev pub is_living : ℕ → ℕ → Record → Bool
is_living lifetime now r = lives lifetime r.at now

-- the records that are live at this time
abbrev pub living : ℕ → ℕ → List Record → List Record
living lifetime now records = filter (is_living lifetime now) records

-- one more record, after those that are live at its time; expired ones are released
abbrev pub kept_with : ℕ → Record → List Record → List Record
kept_with lifetime r records = living lifetime r.at records ++ r ∷ []

-- the record is of a message from this endpoint with this Message ID (RFC 7252, 4.5)
abbrev pub is_of : Endpoint → ℕ → Record → Bool
is_of from id r = same_endpoint r.from from && (r.id == id)

-- the record of a message
abbrev pub record_of : Endpoint → ℕ → List Record → Option Record
record_of from id records = find (is_of from id) records

-- the record is of a message from this endpoint: address and port are those of its source
abbrev pub is_from : Endpoint → Record → Bool
is_from from r = same_endpoint r.from from

-- the records of messages from an endpoint, and how many they are
abbrev pub records_from : Endpoint → List Record → List Record
records_from from records = filter (is_from from) records

abbrev pub count_from : Endpoint → List Record → ℕ
count_from from records = length (records_from from records)

-- no record was kept after this time
abbrev pub AreUpTo : ℕ → List Record → Type 0
AreUpTo now records = AllByRecursion (λ r. r.at ≤ now) records

-- no record was kept before one that precedes it in the list
abbrev pub AreInOrder : List Record → Type 0
AreInOrder [] = Unit {0}
AreInOrder (r ∷ rs) = AllByRecursion (λ s. r.at ≤ s.at) rs × AreInOrder rs

-- no two records have the same endpoint and Message ID
abbrev pub AreApart : List Record → Type 0
AreApart [] = Unit {0}
AreApart (r ∷ rs) = (record_of r.from r.id rs ≡ None) × AreApart rs

-- the number of bytes that are kept for a record: those of its reply
abbrev pub reply_bytes : Record → ℕ
reply_bytes r = option_map_or (λ reply. length reply) r.reply 0

-- the number of bytes that are kept for all records, live or expired
abbrev pub bytes_of : List Record → ℕ
bytes_of records = sum_by reply_bytes records
