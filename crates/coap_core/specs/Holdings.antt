-- What endpoints have of a table, in holdings.
use Rattle.std.specs.Prelude.{◌≡◌, ℕ, ◌+◌, ◌<◌, ◌≤◌, ◌==◌, nat_lt, false, if◌then◌else◌, List, [], ◌∷◌, map, Option, Some, None}
use Rattle.std.specs.List.{AllByRecursion}
use Rattle.std.specs.Ordering.{is_lt}
use Rattle.coap_endpoint.specs.declared.endpoint.Endpoint.{Endpoint}
use Rattle.coap_endpoint.specs.declared.endpoint.Ip.{Ip}
use Rattle.coap_endpoint.specs.Endpoint.{same_endpoint, same_ip}
use Rattle.coap_endpoint.specs.Order.{ip_cmp}
use Rattle.coap_dedup.specs.declared.record.Record.{Record}
use Rattle.coap_pending.specs.Table.{Numbered}
use Rattle.endpoint_counts.specs.declared.slots.Entry.{Entry}
use Rattle.coap_core.specs.declared.most.Holding.{Holding}
use Rattle.coap_core.specs.declared.most.Sum.{Sum}
use Rattle.coap_core.specs.Holders.{held_by, is_among, ports_of}

-- what an address has, and what an endpoint has
abbrev pub held_in : Ip → List Holding → ℕ
held_in ip [] = 0
held_in ip (p ∷ ps) = (if same_ip p.at.ip ip then p.count else 0) + held_in ip ps

abbrev pub had_by : Endpoint → List Holding → ℕ
had_by e [] = 0
had_by e (p ∷ ps) = (if same_endpoint p.at e then p.count else 0) + had_by e ps

-- the endpoints that have them
abbrev pub ends : List Holding → List Endpoint
ends ps = map (λ p. p.at) ps

-- none is empty
abbrev pub AreSome : List Holding → Type 0
AreSome ps = AllByRecursion (λ p. 0 < p.count) ps

-- the holdings of an address, and of an endpoint, stand beside one another: if the second is of
-- another, so are all that follow
abbrev pub StartsGroup : Holding → List Holding → Type 0
StartsGroup p [] = Unit {0}
StartsGroup p (q ∷ qs) =
    (same_ip p.at.ip q.at.ip ≡ false → held_in p.at.ip (q ∷ qs) ≡ 0)
    × (same_endpoint q.at p.at ≡ false → is_among p.at (ends (q ∷ qs)) ≡ false)

abbrev pub AreGrouped : List Holding → Type 0
AreGrouped [] = Unit {0}
AreGrouped (p ∷ ps) = StartsGroup p ps × AreGrouped ps

-- no address is lower than that of a holding before it
abbrev pub AreRising : List Holding → Type 0
AreRising [] = Unit {0}
AreRising (p ∷ ps) =
    AllByRecursion (λ q. is_lt (ip_cmp q.at.ip p.at.ip) ≡ false) ps × AreRising ps

-- a sum with one holding more
abbrev pub sum_with : Option Sum → Holding → Sum
sum_with None p = record { last = p.at; held = p.count; ports = 1 }
sum_with (Some s) p =
    if same_ip p.at.ip s.last.ip
    then record {
      last = p.at;
      held = s.held + p.count;
      ports = if p.at.port == s.last.port then s.ports else s.ports + 1;
    }
    else record { last = p.at; held = p.count; ports = 1 }

-- the greater of two sums, and of equal ones the second
abbrev pub greater_of : Option Sum → Sum → Option Sum
greater_of None s = Some s
greater_of (Some it) s = if nat_lt s.held it.held then Some it else Some s

-- a sum is of all holdings of an address, with how many ports it has them; no address has more, and
-- none that has as much is lower
pub record IsGreatest (ps : List Holding) (s : Sum) : Type 0 where
  pub held : s.held ≡ held_in s.last.ip ps
  pub ports : s.ports ≡ ports_of s.last.ip (ends ps)
  pub most : (ip : Ip) → held_in ip ps ≤ s.held
  pub lowest : (ip : Ip) → held_in ip ps ≡ s.held → is_lt (ip_cmp ip s.last.ip) ≡ false

-- a sum is of the holdings of the first one's address
abbrev pub IsOfFirst : List Holding → Option Sum → Type 0
IsOfFirst [] None = Unit {0}
IsOfFirst [] (Some s) = ⊥
IsOfFirst (p ∷ ps) None = ⊥
IsOfFirst (p ∷ ps) (Some s) =
    (s.last ≡ p.at)
    × (s.held ≡ held_in p.at.ip (p ∷ ps))
    × (s.ports ≡ ports_of p.at.ip (ends (p ∷ ps)))

-- if there are holdings, a sum is that of an address that has most
abbrev pub IsMost : List Holding → Option Sum → Type 0
IsMost [] most = most ≡ None
IsMost (p ∷ ps) None = ⊥
IsMost (p ∷ ps) (Some s) = IsGreatest (p ∷ ps) s

-- one holding for each of these
abbrev pub holdings_of : List Endpoint → List Holding
holdings_of es = map (λ e. record { at = e; count = 1 }) es

-- the holdings are of a table's items, which are these endpoints': each has as many of one as of
-- the other
pub record AreOf (es : List Endpoint) (ps : List Holding) : Type 0 where
  pub some : AreSome ps
  pub each : (e : Endpoint) → had_by e ps ≡ had_by e (holdings_of es)

-- the sum of the lowest address that has most of items that are these endpoints'
pub record IsGreatestOf (es : List Endpoint) (s : Sum) : Type 0 where
  pub held : s.held ≡ held_by s.last.ip es
  pub ports : s.ports ≡ ports_of s.last.ip es
  pub most : (ip : Ip) → held_by ip es ≤ s.held
  pub lowest : (ip : Ip) → held_by ip es ≡ s.held → is_lt (ip_cmp ip s.last.ip) ≡ false

-- one holding for each record, and one for each client
abbrev pub record_holdings : List Record → List Holding
record_holdings rs = map (λ r. record { at = r.from; count = 1 }) rs

abbrev pub client_holdings : List (Numbered Entry) → List Holding
client_holdings entries = map (λ x. record { at = x.1.peer; count = x.1.counts.all }) entries
