-- Sorted holdings are grouped by address and by endpoint.
use Rattle.std.proofs.Common.{◌≡◌, ℕ, suc, ◌+◌, ◌<◌, List, [], ◌∷◌, length, get_or, Bool, true, false, refl, sym, ap, ◌∙◌, subst, arith}
use Rattle.std.specs.Cmp.{IsTotalOrder}
use Rattle.std.specs.declared.cmp.Ordering.{Ordering}
use Rattle.std.specs.declared.cmp.Ordering.TheVariants.{Less, Equal, Greater}
use Rattle.std.specs.Ordering.{is_lt, is_eq, ordering_then, ordering_reverse}
use Rattle.std.specs.List.{AllByRecursion}
use Rattle.std.specs.List.Sorted.{IsSorted}
use Rattle.std.proofs.lemmas.List.Sorted.{ranks_by, sorted_far}
use Rattle.coap_endpoint.specs.declared.endpoint.Endpoint.{Endpoint}
use Rattle.coap_endpoint.specs.declared.endpoint.Ip.{Ip}
use Rattle.coap_endpoint.specs.declared.endpoint.Ip.TheVariants.{V4, V6}
use Rattle.coap_endpoint.specs.Endpoint.{same_endpoint, same_ip}
use Rattle.coap_endpoint.specs.Order as order
use Rattle.coap_endpoint.specs.contracts.endpoint.IpOrd.TheImpl as ips
use Rattle.coap_endpoint.specs.contracts.endpoint.IpOrd.TheImpl.Laws as ip_laws
use Rattle.coap_endpoint.specs.contracts.endpoint.EndpointOrd.TheImpl as endpoints
use Rattle.coap_endpoint.specs.contracts.endpoint.EndpointOrd.TheImpl.Laws as endpoint_laws
use Rattle.coap_core.specs.contracts.most.HoldingOrd.TheImpl as holdings
use Rattle.coap_core.specs.contracts.most.HoldingOrd.TheImpl.Laws as holding_laws
use Rattle.coap_endpoint.specs.Alike.{endpoint_same, ip_itself, ip_same}
use Rattle.coap_core.specs.declared.most.Holding.{Holding}
use Rattle.coap_core.specs.Holders.{is_among}
use Rattle.coap_core.specs.Holdings.{AreGrouped, AreRising, StartsGroup, ends, held_in}

-- the orders of holdings, of addresses and of endpoints
holding_cmp : Holding → Holding → Ordering
holding_cmp a b = holdings.ghosts.cmp a b

-- that of addresses
ip_cmp : Ip → Ip → Ordering
ip_cmp a b = ips.ghosts.cmp a b

-- that of endpoints
endpoint_cmp : Endpoint → Endpoint → Ordering
endpoint_cmp a b = endpoints.ghosts.cmp a b

-- each is an order
ip-order : IsTotalOrder ip_cmp
unfolding ip_cmp
ip-order = ip_laws.total-law

-- that of endpoints is one
endpoint-order : IsTotalOrder endpoint_cmp
unfolding endpoint_cmp
endpoint-order = endpoint_laws.total-law

-- and so is that of holdings
holding-order : IsTotalOrder holding_cmp
unfolding holding_cmp
holding-order = holding_laws.total-law

-- what isn't less by the first of two orders and then the second, isn't by the first
then-first : (o p : Ordering) → is_lt (ordering_then o p) ≡ false → is_lt o ≡ false
then-first Less p e = e
then-first Equal p e = refl
then-first Greater p e = refl

-- so a holding that isn't lower has no lower endpoint
holding-endpoint : (a b : Holding) → is_lt (holding_cmp a b) ≡ false → is_lt (endpoint_cmp a.at b.at) ≡ false
unfolding holding_cmp endpoint_cmp
holding-endpoint a b e = then-first (endpoints.ghosts.cmp a.at b.at) _ e

-- and no lower address
endpoint-ip : (a b : Endpoint) → is_lt (endpoint_cmp a b) ≡ false → is_lt (ip_cmp a.ip b.ip) ≡ false
unfolding ip_cmp endpoint_cmp
endpoint-ip a b e = then-first (ips.ghosts.cmp a.ip b.ip) _ e

-- of two values of which none is lower than the other, both are equal in the order
tied : {K : Type 0} {R : K → K → Ordering} → IsTotalOrder R → (x y : K) → is_lt (R x y) ≡ false → is_lt (R y x) ≡ false → is_eq (R x y) ≡ true
tied {K} {R} order x y e f = go (R x y) refl
  where
    go : (o : Ordering) → R x y ≡ o → is_eq o ≡ true
    go Less g = absurd (let h = ap is_lt g in cc)
    go Equal g = refl
    go Greater g = absurd (let h = order.antisymm y x in let l : is_lt (R y x) ≡ true = ap is_lt h ∙ ap (λ o. is_lt (ordering_reverse o)) g in cc)

-- the orders tell equal values as the tests do
ip-tied : (a b : Ip) → is_eq (ip_cmp a b) ≡ same_ip a b
unfolding ip_cmp
ip-tied (V4 a) (V4 b) = sym (ip_laws.matches_eq-law (V4 a) (V4 b))
ip-tied (V6 a) (V6 b) = sym (ip_laws.matches_eq-law (V6 a) (V6 b))
ip-tied (V4 a) (V6 b) = refl
ip-tied (V6 a) (V4 b) = refl

-- no address is lower than itself
pub ip-itself : (a : Ip) → is_lt (order.ip_cmp a a) ≡ false
unfolding ip_cmp
ip-itself a = go (ip_cmp a a) (ip-tied a a ∙ ip_itself a)
  where
    go : (o : Ordering) → is_eq o ≡ true → is_lt o ≡ false
    go Less e = absurd cc
    go Equal e = refl
    go Greater e = refl

-- so does that of endpoints
endpoint-tied : (a b : Endpoint) → is_eq (endpoint_cmp a b) ≡ same_endpoint a b
unfolding endpoint_cmp
endpoint-tied a b = sym (endpoint_laws.matches_eq-law a b)

-- so an address, or an endpoint, between two equal ones is the same
ip-between : (p q r : Ip) → is_lt (ip_cmp q p) ≡ false → is_lt (ip_cmp r q) ≡ false → same_ip r p ≡ true → same_ip p q ≡ true
ip-between p q r low high e =
    let same = ip_same r p e in
    let back : is_lt (ip_cmp p q) ≡ false = subst (λ x. is_lt (ip_cmp x q) ≡ false) same high in
    sym (ip-tied p q) ∙ tied ip-order p q back low

-- and so is an endpoint
endpoint-between : (p q r : Endpoint) → is_lt (endpoint_cmp q p) ≡ false → is_lt (endpoint_cmp r q) ≡ false → same_endpoint r p ≡ true → same_endpoint q p ≡ true
endpoint-between p q r low high e =
    let same = endpoint_same r p e in
    let back : is_lt (endpoint_cmp p q) ≡ false = subst (λ x. is_lt (endpoint_cmp x q) ≡ false) same high in
    sym (endpoint-tied q p) ∙ tied endpoint-order q p low back

-- ---- sorted holdings

-- no holding that follows is lower than this one
abbrev AllUp : Holding → List Holding → Type 0
AllUp p [] = Unit {0}
AllUp p (q ∷ qs) = (is_lt (holding_cmp q p) ≡ false) × AllUp p qs

abbrev AreUp : List Holding → Type 0
AreUp [] = Unit {0}
AreUp (p ∷ ps) = AllUp p ps × AreUp ps

-- no holding is lower if none at any place is
all-up : (p : Holding) (ps : List Holding) → ((k : ℕ) (d : Holding) → k < length ps → is_lt (holding_cmp (get_or ps k d) p) ≡ false) → AllUp p ps
all-up p [] h = tt
all-up p (q ∷ qs) h = (h 0 p (omega arith), all-up p qs (λ k d lt. h (suc k) d (omega arith)))

-- the rest of sorted holdings is sorted
sorted-rest : (p : Holding) (ps : List Holding) → IsSorted holding_cmp (p ∷ ps) → IsSorted holding_cmp ps
sorted-rest p ps h = λ k d low high.
    let next : suc k + 1 ≡ suc (k + 1) = omega arith in
    subst (λ n. is_lt (holding_cmp (get_or (p ∷ ps) n d) (get_or ps k d)) ≡ false) next (h (suc k) d (omega arith) (omega arith))

-- so holdings that are sorted rise throughout
are-up : (ps : List Holding) → IsSorted holding_cmp ps → AreUp ps
are-up [] h = tt
are-up (p ∷ ps) h = (all-up p ps (λ k d lt. sorted_far (λ x y. is_lt (holding_cmp x y)) (ranks_by holding-order (λ x. x)) (p ∷ ps) h 0 (suc k) d (omega arith) (omega arith)), are-up ps (sorted-rest p ps h))

-- none after a holding of another address is of the first one's address
none-after : (p q : Holding) (qs : List Holding) → same_ip p.at.ip q.at.ip ≡ false → is_lt (holding_cmp q p) ≡ false → AllUp q qs → held_in p.at.ip qs ≡ 0
none-after p q [] other up ups = refl
none-after p q (r ∷ rs) other up ups = go (same_ip r.at.ip p.at.ip) refl (none-after p q rs other up ups.1)
  where
    go : (b : Bool) → same_ip r.at.ip p.at.ip ≡ b → held_in p.at.ip rs ≡ 0 → held_in p.at.ip (r ∷ rs) ≡ 0
    go false e rest = rw e (omega arith)
    go true e rest = absurd (
        let one = ip-between p.at.ip q.at.ip r.at.ip (endpoint-ip q.at p.at (holding-endpoint q p up)) (endpoint-ip r.at q.at (holding-endpoint r q ups.0)) e in
        cc)

-- nor of its endpoint
no-more : (p q : Holding) (qs : List Holding) → same_endpoint q.at p.at ≡ false → is_lt (holding_cmp q p) ≡ false → AllUp q qs → is_among p.at (ends qs) ≡ false
no-more p q [] other up ups = refl
no-more p q (r ∷ rs) other up ups = go (same_endpoint r.at p.at) refl (no-more p q rs other up ups.1)
  where
    go : (b : Bool) → same_endpoint r.at p.at ≡ b → is_among p.at (ends rs) ≡ false → is_among p.at (ends (r ∷ rs)) ≡ false
    go false e rest = rw e rest
    go true e rest = absurd (
        let one = endpoint-between p.at q.at r.at (holding-endpoint q p up) (holding-endpoint r q ups.0) e in
        cc)

-- so sorted holdings are grouped
starts : (p : Holding) (ps : List Holding) → AllUp p ps → AreUp ps → StartsGroup p ps
starts p [] ups rest = tt
starts p (q ∷ qs) ups rest = (ip, endpoint)
  where
    ip : same_ip p.at.ip q.at.ip ≡ false → held_in p.at.ip (q ∷ qs) ≡ 0
    ip e = go (same_ip q.at.ip p.at.ip) refl (none-after p q qs e ups.0 rest.0)
      where
        go : (b : Bool) → same_ip q.at.ip p.at.ip ≡ b → held_in p.at.ip qs ≡ 0 → held_in p.at.ip (q ∷ qs) ≡ 0
        go false f none = rw f (omega arith)
        go true f none = absurd (
            let same = ip_same q.at.ip p.at.ip f in
            let one : same_ip p.at.ip q.at.ip ≡ true = subst (λ x. same_ip p.at.ip x ≡ true) (sym same) (ip_itself p.at.ip) in
            cc)

    endpoint : same_endpoint q.at p.at ≡ false → is_among p.at (ends (q ∷ qs)) ≡ false
    endpoint e = rw e (no-more p q qs e ups.0 rest.0)

-- one holding after another
up-grouped : (ps : List Holding) → AreUp ps → AreGrouped ps
up-grouped [] ups = tt
up-grouped (p ∷ ps) ups = (starts p ps ups.0 ups.1, up-grouped ps ups.1)

-- and their addresses rise
all-rising : (p : Holding) (ps : List Holding) → AllUp p ps → AllByRecursion (λ q. is_lt (order.ip_cmp q.at.ip p.at.ip) ≡ false) ps
unfolding ip_cmp
all-rising p [] ups = tt
all-rising p (q ∷ qs) ups = (endpoint-ip q.at p.at (holding-endpoint q p ups.0), all-rising p qs ups.1)

up-rising : (ps : List Holding) → AreUp ps → AreRising ps
up-rising [] ups = tt
up-rising (p ∷ ps) ups = (all-rising p ps ups.0, up-rising ps ups.1)

-- as a sort leaves them
pub sorted-grouped : (ps : List Holding) → IsSorted (λ a b. holdings.ghosts.cmp a b) ps → AreGrouped ps
unfolding holding_cmp
sorted-grouped ps h = up-grouped ps (are-up ps h)

pub sorted-rising : (ps : List Holding) → IsSorted (λ a b. holdings.ghosts.cmp a b) ps → AreRising ps
unfolding holding_cmp
sorted-rising ps h = up-rising ps (are-up ps h)
