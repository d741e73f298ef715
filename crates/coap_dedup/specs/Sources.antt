-- Which records are of messages from which endpoint.
use Rattle.std.specs.Prelude.{◌≡◌, ℕ, Bool, ◌+◌, ◌-◌, ◌%◌, ◌^◌, if◌then◌else◌, nat_lt, List, [], ◌∷◌, length, Option, Some, None}
use Rattle.std.specs.declared.cmp.Ordering.{Ordering}
use Rattle.std.specs.BTreeMap.{BTreeMap, get}
use Rattle.std.specs.Ordering.{is_eq}
use Rattle.coap_endpoint.specs.declared.endpoint.Endpoint.{Endpoint}
use Rattle.coap_endpoint.specs.contracts.endpoint.EndpointOrd.TheImpl as order
use Rattle.coap_dedup.specs.declared.record.Record.{Record}
use Rattle.coap_dedup.specs.declared.sources.Share.{Share}
use Rattle.coap_dedup.specs.declared.sources.Sources.{Sources}
use Rattle.coap_dedup.specs.Lists.{is_from}

-- the order of the endpoints in the map of their shares
abbrev pub source_cmp : Endpoint → Endpoint → Ordering
source_cmp = (order.ghosts).cmp

-- they are the same in that order
abbrev pub is_same : Endpoint → Endpoint → Bool
is_same a b = is_eq (source_cmp a b)

abbrev pub Shares : Type 0
Shares = BTreeMap Endpoint Share

-- the share of an endpoint, if it has one
abbrev pub share_in : Shares → Endpoint → Option Share
share_in shares from = get source_cmp shares from

-- the numbers of an endpoint's records, if the first record has this number and each further one
-- has the next, modulo 2^64
abbrev pub numbers_from : ℕ → Endpoint → List Record → List ℕ
numbers_from n from [] = []
numbers_from n from (r ∷ rs) =
    let rest = numbers_from (n + 1) from rs in
    if is_from from r then n % 2 ^ 64 ∷ rest else rest

-- the last of some numbers, the first of which is given apart
abbrev pub last_of : ℕ → List ℕ → ℕ
last_of n [] = n
last_of n (m ∷ ms) = last_of m ms

-- the share of an endpoint whose records have these numbers, if there are any
abbrev pub share_of : List ℕ → Option Share
share_of [] = None
share_of (n ∷ ns) = Some (record { count = length (n ∷ ns); first = n; last = last_of n ns })

-- with one more record, which has this number
abbrev pub grown : Option Share → ℕ → Share
grown None number = record { count = 1; first = number; last = number }
grown (Some share) number =
    record { count = share.count + 1; first = share.first; last = number }

-- without the first record, where this number is that of the next
abbrev pub shrunk : Option Share → ℕ → Option Share
shrunk None next = None
shrunk (Some share) next =
    if nat_lt 1 share.count then
    Some (record { count = share.count - 1; first = next; last = share.last })
    else None

-- how far after the record with the number `first` the one with this number comes
abbrev pub place_of : ℕ → ℕ → ℕ
place_of first number = (number + (2 ^ 64 - first)) % 2 ^ 64

-- a number is the first of these, if there are any
abbrev pub IsNext : ℕ → List ℕ → Type 0
IsNext next [] = Unit {0}
IsNext next (n ∷ ns) = next ≡ n

-- for each record, the first of which has this number, the number of the next one of the same
-- endpoint, if there is one
abbrev pub AreLinked : ℕ → List ℕ → List Record → Type 0
AreLinked n nexts [] = nexts ≡ []
AreLinked n [] (r ∷ rs) = ⊥
AreLinked n (next ∷ nexts) (r ∷ rs) =
    IsNext next (numbers_from (n + 1) r.from rs) × AreLinked (n + 1) nexts rs

-- exactly the endpoints that have records have a share, and their records are linked
pub record AreSourced (first : ℕ) (sources : Sources) (records : List Record) : Type 0 where
  pub shared :
      (from : Endpoint) → share_in sources.shares from ≡ share_of (numbers_from first from records)
  pub linked : AreLinked first sources.nexts.items records
