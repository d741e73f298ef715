-- What the addresses of holdings have, counted from the last holding on.
use Rattle.std.proofs.Common.{◌≡◌, ℕ, suc, zero, ◌+◌, ◌-◌, ◌<◌, ◌≤◌, List, [], ◌∷◌, length, drop, get_or, Bool, true, false, cond, Option, Some, None, IfSome, refl, sym, ap, ◌∙◌, subst, arith, eq-eqb}
use Rattle.std.specs.Prelude.{◌==◌, nat_lt}
use Rattle.std.specs.List.{AllByRecursion}
use Rattle.std.specs.Ordering.{is_lt}
use Rattle.std.proofs.Math.Seq.{drop-cons}
use Rattle.std.proofs.lemmas.Bool.{eqb-true, ltb-false, ltb-true}
use Rattle.coap_endpoint.specs.declared.endpoint.Endpoint.{Endpoint}
use Rattle.coap_endpoint.specs.declared.endpoint.Ip.{Ip}
use Rattle.coap_endpoint.specs.Endpoint.{same_endpoint, same_ip}
use Rattle.coap_endpoint.specs.Order.{ip_cmp}
use Rattle.coap_endpoint.specs.Alike.{endpoint_itself, endpoint_same, ip_itself, ip_same}
use Rattle.coap_core.proofs.Grouping.{ip-itself}
use Rattle.coap_core.specs.declared.most.Holding.{Holding}
use Rattle.coap_core.specs.declared.most.Sum.{Sum}
use Rattle.coap_core.specs.Holders.{is_among, ports_of}
use Rattle.coap_core.specs.Holdings.{AreGrouped, AreRising, AreSome, IsGreatest, IsMost, IsOfFirst, StartsGroup, ends, held_in, greater_of, sum_with}

-- what an address has with one holding more
held-own : (p : Holding) (ps : List Holding) → held_in p.at.ip (p ∷ ps) ≡ p.count + held_in p.at.ip ps
held-own p ps = let one = ip_itself p.at.ip in rw one refl

-- of another address it is as much
held-other : (ip : Ip) (p : Holding) (ps : List Holding) → same_ip p.at.ip ip ≡ false → held_in ip (p ∷ ps) ≡ held_in ip ps
held-other ip p ps e = rw e (omega arith)

-- and how many ports
ports-other : (ip : Ip) (p : Holding) (ps : List Holding) → same_ip p.at.ip ip ≡ false → ports_of ip (ends (p ∷ ps)) ≡ ports_of ip (ends ps)
ports-other ip p ps e = rw e (omega arith)

-- a port more, if its endpoint is new
ports-new : (p : Holding) (ps : List Holding) → is_among p.at (ends ps) ≡ false → ports_of p.at.ip (ends (p ∷ ps)) ≡ 1 + ports_of p.at.ip (ends ps)
ports-new p ps e = let one = ip_itself p.at.ip in rw one (rw e refl)

-- and none more, if it isn't
ports-known : (p : Holding) (ps : List Holding) → is_among p.at (ends ps) ≡ true → ports_of p.at.ip (ends (p ∷ ps)) ≡ ports_of p.at.ip (ends ps)
ports-known p ps e = let one = ip_itself p.at.ip in rw one (rw e (omega arith))

-- an address has at least one of each of its ports
pub ports-most : (ip : Ip) (ps : List Holding) → AreSome ps → ports_of ip (ends ps) ≤ held_in ip ps
ports-most ip [] some = omega arith
ports-most ip (p ∷ ps) some = go (same_ip p.at.ip ip) refl (is_among p.at (ends ps)) refl (ports-most ip ps some.1)
  where
    go : (a : Bool) → same_ip p.at.ip ip ≡ a → (b : Bool) → is_among p.at (ends ps) ≡ b → ports_of ip (ends ps) ≤ held_in ip ps → ports_of ip (ends (p ∷ ps)) ≤ held_in ip (p ∷ ps)
    go false e b f most = rw e (omega arith)
    go true e true f most = rw (e, f) (let h = some.0 in omega arith)
    go true e false f most = rw (e, f) (let h = some.0 in omega arith)

-- an address that has nothing has no ports
ports-none : (ip : Ip) (ps : List Holding) → AreSome ps → held_in ip ps ≡ 0 → ports_of ip (ends ps) ≡ 0
ports-none ip ps some e = let most = ports-most ip ps some in omega arith

-- an address has no more among the holdings from a place on
pub held-drop : (ip : Ip) (k : ℕ) (ps : List Holding) → held_in ip (drop k ps) ≤ held_in ip ps
held-drop ip zero ps = omega arith
held-drop ip (suc k) [] = omega arith
held-drop ip (suc k) (p ∷ ps) = let rest = held-drop ip k ps in omega arith

-- which are grouped, and none is empty
pub grouped-drop : (k : ℕ) (ps : List Holding) → AreGrouped ps → AreGrouped (drop k ps)
grouped-drop zero ps h = h
grouped-drop (suc k) [] h = tt
grouped-drop (suc k) (p ∷ ps) h = grouped-drop k ps h.1

-- whose addresses rise
rising-drop : (k : ℕ) (ps : List Holding) → AreRising ps → AreRising (drop k ps)
rising-drop zero ps h = h
rising-drop (suc k) [] h = tt
rising-drop (suc k) (p ∷ ps) h = rising-drop k ps h.1

-- that are from a place on
pub some-drop : (k : ℕ) (ps : List Holding) → AreSome ps → AreSome (drop k ps)
some-drop zero ps h = h
some-drop (suc k) [] h = tt
some-drop (suc k) (p ∷ ps) h = some-drop k ps h.1

-- the sum of the first one's address, with one holding more
pub first-more : (p : Holding) (ps : List Holding) (sum : Option Sum) → AreSome ps → StartsGroup p ps → IsOfFirst ps sum → IsOfFirst (p ∷ ps) (Some (sum_with sum p))
first-more p [] None some starts is = (refl, omega (arith, held-own p []), omega (arith, ports-new p [] refl))
first-more p [] (Some s) some starts is = absurd is
first-more p (q ∷ qs) None some starts is = absurd is
first-more p (q ∷ qs) (Some s) some starts is = go (same_ip p.at.ip q.at.ip) refl
  where
    ip-is : s.last.ip ≡ q.at.ip
    ip-is = ap (λ (e : Endpoint). e.ip) is.0

    port-is : s.last.port ≡ q.at.port
    port-is = ap (λ (e : Endpoint). e.port) is.0

    goal : Sum → Type 0
    goal t = IsOfFirst (p ∷ q ∷ qs) (Some t)

    other : same_ip p.at.ip q.at.ip ≡ false → goal (record { last = p.at; held = p.count; ports = 1 })
    other e =
        let none = starts.0 e in
        let no-port = ports-none p.at.ip (q ∷ qs) some none in
        let apart : same_endpoint q.at p.at ≡ false = not-same (same_endpoint q.at p.at) refl in
        let new = ports-new p (q ∷ qs) (starts.1 apart) in
        (refl, omega (arith, held-own p (q ∷ qs)), omega arith)
      where
        not-same : (b : Bool) → same_endpoint q.at p.at ≡ b → b ≡ false
        not-same false f = refl
        not-same true f = absurd (
            let is-one = endpoint_same q.at p.at f in
            let alike : same_ip p.at.ip q.at.ip ≡ true = subst (λ (x : Endpoint). same_ip p.at.ip x.ip ≡ true) (sym is-one) (ip_itself p.at.ip) in
            cc)

    own : same_ip p.at.ip q.at.ip ≡ true → (b : Bool) → (p.at.port == q.at.port) ≡ b → goal (record { last = p.at; held = s.held + p.count; ports = cond b s.ports (s.ports + 1) })
    own e true f =
        let ips = ip_same p.at.ip q.at.ip e in
        let one : p.at ≡ q.at = λ i. record { ip = ips i; port = eqb-true p.at.port q.at.port f i } in
        let among : is_among p.at (ends (q ∷ qs)) ≡ true = rw (subst (λ (x : Endpoint). same_endpoint q.at x ≡ true) (sym one) (endpoint_itself q.at)) refl in
        let held = subst (λ (x : Ip). s.held ≡ held_in x (q ∷ qs)) (sym ips) is.1 in
        let ports = subst (λ (x : Ip). s.ports ≡ ports_of x (ends (q ∷ qs))) (sym ips) is.2 in
        (refl, omega (arith, held-own p (q ∷ qs)), ports ∙ sym (ports-known p (q ∷ qs) among))
    own e false f =
        let ips = ip_same p.at.ip q.at.ip e in
        let apart : same_endpoint q.at p.at ≡ false = not-same (same_endpoint q.at p.at) refl in
        let new = ports-new p (q ∷ qs) (starts.1 apart) in
        let held = subst (λ (x : Ip). s.held ≡ held_in x (q ∷ qs)) (sym ips) is.1 in
        let ports = subst (λ (x : Ip). s.ports ≡ ports_of x (ends (q ∷ qs))) (sym ips) is.2 in
        (refl, omega (arith, held-own p (q ∷ qs)), omega arith)
      where
        not-same : (b : Bool) → same_endpoint q.at p.at ≡ b → b ≡ false
        not-same false g = refl
        not-same true g = absurd (
            let is-one = endpoint_same q.at p.at g in
            let alike : (p.at.port == q.at.port) ≡ true = eq-eqb p.at.port q.at.port (ap (λ (x : Endpoint). x.port) (sym is-one)) in
            cc)

    go : (a : Bool) → same_ip p.at.ip q.at.ip ≡ a → goal (sum_with (Some s) p)
    go false e = rw (ip-is, e) (other e)
    go true e = rw (ip-is, port-is, e) (own e (p.at.port == q.at.port) refl)

-- one more of the first one's address, and of its ports, is what it has of all holdings at most
pub fits-more :
    (p : Holding) (ps : List Holding) (sum : Option Sum) (most : ℕ)
    → AreSome (p ∷ ps)
    → IsOfFirst ps sum
    → ((ip : Ip) → held_in ip (p ∷ ps) < most)
    → IfSome sum (λ s. same_ip p.at.ip s.last.ip ≡ true → (s.held + p.count < most) × (s.ports + 1 < most))
fits-more p [] None most some is few = tt
fits-more p [] (Some s) most some is few = absurd is
fits-more p (q ∷ qs) None most some is few = absurd is
fits-more p (q ∷ qs) (Some s) most some is few = λ e.
    let ips : p.at.ip ≡ q.at.ip = ip_same p.at.ip q.at.ip (subst (λ (x : Endpoint). same_ip p.at.ip x.ip ≡ true) is.0 e) in
    let held : s.held ≡ held_in p.at.ip (q ∷ qs) = subst (λ (x : Ip). s.held ≡ held_in x (q ∷ qs)) (sym ips) is.1 in
    let ports : s.ports ≡ ports_of p.at.ip (ends (q ∷ qs)) = subst (λ (x : Ip). s.ports ≡ ports_of x (ends (q ∷ qs))) (sym ips) is.2 in
    let own = held-own p (q ∷ qs) in
    let less = few p.at.ip in
    let many = ports-most p.at.ip (q ∷ qs) some.1 in
    let one = some.0 in
    (omega arith, omega arith)

-- no address of these holdings is lower than this one
abbrev pub AreNotBelow : Ip → List Holding → Type 0
AreNotBelow low ps = AllByRecursion (λ q. is_lt (ip_cmp q.at.ip low) ≡ false) ps

-- so none that has something is
not-below : (low ip : Ip) (ps : List Holding) → AreNotBelow low ps → 0 < held_in ip ps → is_lt (ip_cmp ip low) ≡ false
not-below low ip [] up some = absurd (omega (arith, some))
not-below low ip (q ∷ qs) up some = pick (same_ip q.at.ip ip) refl (λ more. not-below low ip qs up.1 more)
  where
    pick : (b : Bool) → same_ip q.at.ip ip ≡ b → (0 < held_in ip qs → is_lt (ip_cmp ip low) ≡ false) → is_lt (ip_cmp ip low) ≡ false
    pick true e rest = subst (λ (x : Ip). is_lt (ip_cmp x low) ≡ false) (ip_same q.at.ip ip e) up.0
    pick false e rest = let same = held-other ip q qs e in rest (omega arith)

module _ (p : Holding) (ps : List Holding) (s : Sum) (is : IsOfFirst (p ∷ ps) (Some s)) (up : AreNotBelow p.at.ip ps) (one : 0 < p.count) where
  -- the sum is that of its address
  sum-held : s.held ≡ held_in s.last.ip (p ∷ ps)
  sum-held = subst (λ (x : Ip). s.held ≡ held_in x (p ∷ ps)) (sym (ap (λ (e : Endpoint). e.ip) is.0)) is.1

  -- and so is the number of its ports
  sum-ports : s.ports ≡ ports_of s.last.ip (ends (p ∷ ps))
  sum-ports = subst (λ (x : Ip). s.ports ≡ ports_of x (ends (p ∷ ps))) (sym (ap (λ (e : Endpoint). e.ip) is.0)) is.2

  -- an address has the sum, or what it has of the rest
  within : (ip : Ip) (n : ℕ) → held_in ip ps ≤ n → s.held ≤ n → held_in ip (p ∷ ps) ≤ n
  within ip n rest own = pick (same_ip p.at.ip ip) refl
    where
      pick : (b : Bool) → same_ip p.at.ip ip ≡ b → held_in ip (p ∷ ps) ≤ n
      pick true e =
          let all : s.held ≡ held_in ip (p ∷ ps) = subst (λ (x : Ip). s.held ≡ held_in x (p ∷ ps)) (ip_same p.at.ip ip e) is.1 in
          omega arith
      pick false e = let same = held-other ip p ps e in omega arith

  -- an address that has as much isn't lower
  sum-lowest : (ip : Ip) → held_in ip (p ∷ ps) ≡ s.held → is_lt (ip_cmp ip s.last.ip) ≡ false
  sum-lowest ip equal = subst (λ (x : Ip). is_lt (ip_cmp ip x) ≡ false) (sym (ap (λ (e : Endpoint). e.ip) is.0)) (pick (same_ip p.at.ip ip) refl)
    where
      pick : (b : Bool) → same_ip p.at.ip ip ≡ b → is_lt (ip_cmp ip p.at.ip) ≡ false
      pick true e = subst (λ (x : Ip). is_lt (ip_cmp x p.at.ip) ≡ false) (ip_same p.at.ip ip e) (ip-itself p.at.ip)
      pick false e = let same = held-other ip p ps e in let held = is.1 in let own = held-own p ps in not-below p.at.ip ip ps up (omega arith)

  -- so its address has most if no other has more of the rest
  most-new : ((ip : Ip) → held_in ip ps ≤ s.held) → IsGreatest (p ∷ ps) s
  most-new none = record { held = sum-held; ports = sum-ports; most = λ ip. within ip s.held (none ip) (omega arith); lowest = sum-lowest }

  -- and the one that had most still has if that is more
  most-kept : (it : Sum) → IsGreatest ps it → s.held < it.held → IsGreatest (p ∷ ps) it
  most-kept it has less = pick (same_ip p.at.ip it.last.ip) refl
    where
      -- an address that has as much as that one isn't the sum's
      others : (ip : Ip) → held_in ip (p ∷ ps) ≡ it.held → (b : Bool) → same_ip p.at.ip ip ≡ b → is_lt (ip_cmp ip it.last.ip) ≡ false
      others ip equal true e = absurd (
          let all : s.held ≡ held_in ip (p ∷ ps) = subst (λ (x : Ip). s.held ≡ held_in x (p ∷ ps)) (ip_same p.at.ip ip e) is.1 in
          omega arith)
      others ip equal false e = has.lowest ip (sym (held-other ip p ps e) ∙ equal)

      pick : (b : Bool) → same_ip p.at.ip it.last.ip ≡ b → IsGreatest (p ∷ ps) it
      pick true e = absurd (
          let ips = ip_same p.at.ip it.last.ip e in
          let all : s.held ≡ held_in it.last.ip (p ∷ ps) = subst (λ (x : Ip). s.held ≡ held_in x (p ∷ ps)) ips is.1 in
          let more : held_in it.last.ip (p ∷ ps) ≡ p.count + held_in it.last.ip ps = subst (λ (x : Ip). held_in x (p ∷ ps) ≡ p.count + held_in x ps) ips (held-own p ps) in
          let its = has.held in
          omega arith)
      pick false e = record {
        held = has.held ∙ sym (held-other it.last.ip p ps e);
        ports = has.ports ∙ sym (ports-other it.last.ip p ps e);
        most = λ ip. within ip it.held (has.most ip) (omega arith);
        lowest = λ ip equal. others ip equal (same_ip p.at.ip ip) refl;
      }

  -- whichever is more
  most-either : (it : Sum) → IsGreatest ps it → (b : Bool) → nat_lt s.held it.held ≡ b → IsMost (p ∷ ps) (cond b (Some it) (Some s))
  most-either it has true e = most-kept it has (ltb-true s.held it.held e)
  most-either it has false e = most-new (λ ip. let most = has.most ip in let no-less = ltb-false s.held it.held e in omega arith)

-- the greater of two sums is that of an address that has most
pub most-more :
    (p : Holding) (ps : List Holding) (most : Option Sum) (s : Sum)
    → IsOfFirst (p ∷ ps) (Some s)
    → AreNotBelow p.at.ip ps
    → 0 < p.count
    → IsMost ps most
    → IsMost (p ∷ ps) (greater_of most s)
most-more p [] most s is up one are = rw are (most-new p [] s is up one (λ ip. omega arith))
most-more p (q ∷ qs) None s is up one are = absurd are
most-more p (q ∷ qs) (Some it) s is up one are = most-either p (q ∷ qs) s is up one it are (nat_lt s.held it.held) refl

-- the holdings from one place before on
drop-first : (k : ℕ) (ps : List Holding) (d : Holding) → 0 < k → k ≤ length ps → drop (k - 1) ps ≡ get_or ps (k - 1) d ∷ drop k ps
drop-first k ps d some within =
    let next : suc (k - 1) ≡ k = omega arith in
    drop-cons ps (k - 1) d (omega arith) ∙ ap (λ n. get_or ps (k - 1) d ∷ drop n ps) next

-- a step of the loop: the sum of the first one's address, and that of the one that has most
pub step-first :
    (k : ℕ) (ps : List Holding) (d : Holding) (sum : Option Sum)
    → 0 < k → k ≤ length ps
    → AreGrouped ps → AreSome ps
    → IsOfFirst (drop k ps) sum
    → IsOfFirst (drop (k - 1) ps) (Some (sum_with sum (get_or ps (k - 1) d)))
step-first k ps d sum low high grouped some is =
    let e = drop-first k ps d low high in
    let starts = subst AreGrouped e (grouped-drop (k - 1) ps grouped) in
    rw e (first-more (get_or ps (k - 1) d) (drop k ps) sum (some-drop k ps some) starts.0 is)

-- and the sum that is most
pub step-most :
    (k : ℕ) (ps : List Holding) (d : Holding) (most : Option Sum) (s : Sum)
    → 0 < k → k ≤ length ps
    → AreRising ps → AreSome ps
    → IsOfFirst (drop (k - 1) ps) (Some s)
    → IsMost (drop k ps) most
    → IsMost (drop (k - 1) ps) (greater_of most s)
step-most k ps d most s low high rising some is are =
    let e = drop-first k ps d low high in
    let up = subst AreRising e (rising-drop (k - 1) ps rising) in
    let ones = subst AreSome e (some-drop (k - 1) ps some) in
    rw e (most-more (get_or ps (k - 1) d) (drop k ps) most s (subst (λ qs. IsOfFirst qs (Some s)) e is) up.0 ones.0 are)

-- and no number in it is too great
pub step-fits :
    (k : ℕ) (ps : List Holding) (d : Holding) (sum : Option Sum) (most : ℕ)
    → 0 < k → k ≤ length ps
    → AreSome ps
    → ((ip : Ip) → held_in ip ps < most)
    → IsOfFirst (drop k ps) sum
    → IfSome sum (λ s. same_ip (get_or ps (k - 1) d).at.ip s.last.ip ≡ true → (s.held + (get_or ps (k - 1) d).count < most) × (s.ports + 1 < most))
step-fits k ps d sum most low high some few is =
    let e = drop-first k ps d low high in
    fits-more (get_or ps (k - 1) d) (drop k ps) sum most (subst AreSome e (some-drop (k - 1) ps some))
    is (λ ip. let less = few ip in let rest = held-drop ip (k - 1) ps in let same = ap (held_in ip) e in omega arith)
