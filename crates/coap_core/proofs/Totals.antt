-- Holdings of which each endpoint has as much are the same to each address.
use Rattle.std.proofs.Common.{◌≡◌, ℕ, suc, zero, ◌+◌, ◌<◌, ◌≤◌, List, [], ◌∷◌, length, Bool, true, false, not, cond, refl, sym, ap, ◌∙◌, subst, arith, eq-eqb}
use Rattle.std.specs.Prelude.{◌==◌, if◌then◌else◌, nat_lt}
use Rattle.std.proofs.lemmas.Bool.{eqb-true, lt-ltb, ne_eqb}
use Rattle.coap_endpoint.specs.declared.endpoint.Endpoint.{Endpoint}
use Rattle.coap_endpoint.specs.declared.endpoint.Ip.{Ip}
use Rattle.coap_endpoint.specs.Endpoint.{same_endpoint, same_ip}
use Rattle.coap_endpoint.specs.Alike.{ip_same}
use Rattle.coap_core.specs.declared.most.Holding.{Holding}
use Rattle.coap_core.specs.Holders.{held_by, is_among, ports_of}
use Rattle.coap_core.specs.Holdings.{AreOf, AreSome, ends, had_by, held_in, holdings_of}

-- ---- sums over numbers below a bound

-- a sum over the numbers below a bound
abbrev sum_below : ℕ → (ℕ → ℕ) → ℕ
sum_below zero f = 0
sum_below (suc n) f = sum_below n f + f n

-- equal terms have equal sums
sum-same : (n : ℕ) (f g : ℕ → ℕ) → ((q : ℕ) → f q ≡ g q) → sum_below n f ≡ sum_below n g
sum-same zero f g e = refl
sum-same (suc n) f g e = let here = e n in let rest = sum-same n f g e in omega arith

-- the sum of sums is the sum of both
sum-add : (n : ℕ) (f g h : ℕ → ℕ) → ((q : ℕ) → h q ≡ f q + g q) → sum_below n h ≡ sum_below n f + sum_below n g
sum-add zero f g h e = refl
sum-add (suc n) f g h e = let here = e n in let rest = sum-add n f g h e in omega arith

-- of one number alone
abbrev only_at : ℕ → ℕ → ℕ → ℕ
only_at port c q = if port == q then c else 0

-- it adds nothing below that number
only-none : (n port c : ℕ) → n ≤ port → sum_below n (only_at port c) ≡ 0
only-none zero port c le = refl
only-none (suc n) port c le =
    let rest = only-none n port c (omega arith) in
    let other : (port == n) ≡ false = ne_eqb port n (λ e. omega arith) in
    rw other (omega arith)

-- and once above it
only-one : (n port c : ℕ) → port < n → sum_below n (only_at port c) ≡ c
only-one zero port c lt = absurd (omega arith)
only-one (suc n) port c lt = go (port == n) refl (only-one n port c)
  where
    go : (b : Bool) → (port == n) ≡ b → (port < n → sum_below n (only_at port c) ≡ c) → sum_below (suc n) (only_at port c) ≡ c
    go true e below =
        let is = eqb-true port n e in
        let none = only-none n port c (omega arith) in
        rw e (omega arith)
    go false e below =
        let apart : port ≡ n → ⊥ = λ is. (let yes = eq-eqb port n is in cc) in
        let rest = below (omega (arith, apart)) in
        rw e (omega arith)

-- a sum of zeros
sum-none : (n : ℕ) (f : ℕ → ℕ) → ((q : ℕ) → f q ≡ 0) → sum_below n f ≡ 0
sum-none zero f e = refl
sum-none (suc n) f e = let here = e n in let rest = sum-none n f e in omega arith

-- ---- what an address has, port by port

-- the endpoint of an address with a port
abbrev at_port : Ip → ℕ → Endpoint
at_port ip q = record { ip = ip; port = q }

-- more than any port of these
abbrev above : List Holding → ℕ
above [] = 0
above (p ∷ ps) = suc p.at.port + above ps

-- what an address has is what its ports have
held-by-port : (ip : Ip) (ps : List Holding) (n : ℕ) → above ps ≤ n → held_in ip ps ≡ sum_below n (λ q. had_by (at_port ip q) ps)
held-by-port ip [] n le = sym (sum-none n (λ q. 0) (λ q. refl))
held-by-port ip (p ∷ ps) n le = go (same_ip p.at.ip ip) refl (held-by-port ip ps n (omega arith))
  where
    go : (b : Bool) → same_ip p.at.ip ip ≡ b → held_in ip ps ≡ sum_below n (λ q. had_by (at_port ip q) ps) → held_in ip (p ∷ ps) ≡ sum_below n (λ q. had_by (at_port ip q) (p ∷ ps))
    go true e rest =
        let both = sum-add n (only_at p.at.port p.count) (λ q. had_by (at_port ip q) ps) (λ q. had_by (at_port ip q) (p ∷ ps)) (λ q. rw e refl) in
        let one = only-one n p.at.port p.count (omega arith) in
        let more : held_in ip (p ∷ ps) ≡ p.count + held_in ip ps = rw e refl in
        omega arith
    go false e rest =
        let same = sum-same n (λ q. had_by (at_port ip q) (p ∷ ps)) (λ q. had_by (at_port ip q) ps) (λ q. rw e (omega arith)) in
        let none : held_in ip (p ∷ ps) ≡ held_in ip ps = rw e (omega arith) in
        none ∙ rest ∙ sym same

-- one if it is so
if_among : Bool → ℕ
if_among b = if b then 1 else 0

-- an endpoint is among those of the holdings exactly if it has something of them
among-any : (e : Endpoint) (ps : List Holding) → AreSome ps → is_among e (ends ps) ≡ nat_lt 0 (had_by e ps)
among-any e [] some = refl
among-any e (p ∷ ps) some = go (same_endpoint p.at e) refl (among-any e ps some.1)
  where
    go : (b : Bool) → same_endpoint p.at e ≡ b → is_among e (ends ps) ≡ nat_lt 0 (had_by e ps) → is_among e (ends (p ∷ ps)) ≡ nat_lt 0 (had_by e (p ∷ ps))
    go true f rest =
        let one = some.0 in
        let more : nat_lt 0 (p.count + had_by e ps) ≡ true = lt-ltb 0 (p.count + had_by e ps) (omega arith) in
        rw f (sym more)
    go false f rest =
        let same : 0 + had_by e ps ≡ had_by e ps = omega arith in
        rw f (rw same rest)

-- its ports are counted one by one
ports-by-port : (ip : Ip) (ps : List Holding) (n : ℕ) → above ps ≤ n → ports_of ip (ends ps) ≡ sum_below n (λ q. cond (is_among (at_port ip q) (ends ps)) 1 0)
ports-by-port ip [] n le = sym (sum-none n (λ q. 0) (λ q. refl))
ports-by-port ip (p ∷ ps) n le = go (same_ip p.at.ip ip) refl (is_among p.at (ends ps)) refl (ports-by-port ip ps n (omega arith))
  where
    each : same_ip p.at.ip ip ≡ true → (a : Bool) → is_among p.at (ends ps) ≡ a → (q : ℕ) → cond (is_among (at_port ip q) (ends (p ∷ ps))) 1 0 ≡ only_at p.at.port (cond (not a) 1 0) q + cond (is_among (at_port ip q) (ends ps)) 1 0
    each e a f q = pick (p.at.port == q) refl
      where
        pick : (b : Bool) → (p.at.port == q) ≡ b → cond (is_among (at_port ip q) (ends (p ∷ ps))) 1 0 ≡ only_at p.at.port (cond (not a) 1 0) q + cond (is_among (at_port ip q) (ends ps)) 1 0
        pick false g = rw (e, g) (omega arith)
        pick true g =
            let ips = ip_same p.at.ip ip e in
            let one : p.at ≡ at_port ip q = λ i. record { ip = ips i; port = eqb-true p.at.port q g i } in
            let known : is_among (at_port ip q) (ends ps) ≡ a = subst (λ x. is_among x (ends ps) ≡ a) one f in
            rw (e, g, known) (last a)
          where
            last : (a : Bool) → 1 ≡ cond (not a) 1 0 + cond a 1 0
            last true = refl
            last false = refl

    go : (b : Bool) → same_ip p.at.ip ip ≡ b → (a : Bool) → is_among p.at (ends ps) ≡ a → ports_of ip (ends ps) ≡ sum_below n (λ q. cond (is_among (at_port ip q) (ends ps)) 1 0) → ports_of ip (ends (p ∷ ps)) ≡ sum_below n (λ q. cond (is_among (at_port ip q) (ends (p ∷ ps))) 1 0)
    go true e a f rest =
        let both = sum-add n (only_at p.at.port (cond (not a) 1 0)) (λ q. cond (is_among (at_port ip q) (ends ps)) 1 0) (λ q. cond (is_among (at_port ip q) (ends (p ∷ ps))) 1 0) (each e a f) in
        let one = only-one n p.at.port (cond (not a) 1 0) (omega arith) in
        let more : ports_of ip (ends (p ∷ ps)) ≡ cond (not a) 1 0 + ports_of ip (ends ps) = rw (e, f) refl in
        omega arith
    go false e a f rest =
        let same = sum-same n (λ q. cond (is_among (at_port ip q) (ends (p ∷ ps))) 1 0) (λ q. cond (is_among (at_port ip q) (ends ps)) 1 0) (λ q. rw e refl) in
        let none : ports_of ip (ends (p ∷ ps)) ≡ ports_of ip (ends ps) = rw e (omega arith) in
        none ∙ rest ∙ sym same

-- ---- two lists of holdings

module _ (ps qs : List Holding) (same : (e : Endpoint) → had_by e ps ≡ had_by e qs) where
  -- each address has as much of both
  alike-held : (ip : Ip) → held_in ip ps ≡ held_in ip qs
  alike-held ip =
      held-by-port ip ps (above ps + above qs) (omega arith)
      ∙ sum-same (above ps + above qs) (λ q. had_by (at_port ip q) ps) (λ q. had_by (at_port ip q) qs) (λ q. same (at_port ip q))
      ∙ sym (held-by-port ip qs (above ps + above qs) (omega arith))

  -- with as many ports
  alike-ports : AreSome ps → AreSome qs → (ip : Ip) → ports_of ip (ends ps) ≡ ports_of ip (ends qs)
  alike-ports left right ip =
      ports-by-port ip ps (above ps + above qs) (omega arith)
      ∙ sum-same (above ps + above qs) (λ q. cond (is_among (at_port ip q) (ends ps)) 1 0) (λ q. cond (is_among (at_port ip q) (ends qs)) 1 0)
      (λ q. ap (λ b. cond b 1 0) (among-any (at_port ip q) ps left ∙ ap (λ k. nat_lt 0 k) (same (at_port ip q)) ∙ sym (among-any (at_port ip q) qs right)))
      ∙ sym (ports-by-port ip qs (above ps + above qs) (omega arith))

-- ---- one holding for each

-- holdings of one each count the items
of-held : (ip : Ip) (es : List Endpoint) → held_in ip (holdings_of es) ≡ held_by ip es
of-held ip [] = refl
of-held ip (e ∷ es) = ap (λ n. cond (same_ip e.ip ip) 1 0 + n) (of-held ip es)

-- they are the items' own endpoints
of-ends : (es : List Endpoint) → ends (holdings_of es) ≡ es
of-ends [] = refl
of-ends (e ∷ es) = ap (λ (xs : List Endpoint). e ∷ xs) (of-ends es)

-- and none is empty
pub of-some : (es : List Endpoint) → AreSome (holdings_of es)
of-some [] = tt
of-some (e ∷ es) = (omega arith, of-some es)

-- so holdings of items are as many as the items, of each address
pub held-of : (es : List Endpoint) (ps : List Holding) → AreOf es ps → (ip : Ip) → held_in ip ps ≡ held_by ip es
held-of es ps are ip = alike-held ps (holdings_of es) are.each ip ∙ of-held ip es

-- and of as many ports
pub ports-of : (es : List Endpoint) (ps : List Holding) → AreOf es ps → (ip : Ip) → ports_of ip (ends ps) ≡ ports_of ip es
ports-of es ps are ip = alike-ports ps (holdings_of es) are.each are.some (of-some es) ip ∙ ap (ports_of ip) (of-ends es)

-- an address has no more than there are items
pub held-length : (ip : Ip) (es : List Endpoint) → held_by ip es ≤ length es
held-length ip [] = omega arith
held-length ip (e ∷ es) = go (same_ip e.ip ip) (held-length ip es)
  where
    go : (b : Bool) → held_by ip es ≤ length es → cond b 1 0 + held_by ip es ≤ suc (length es)
    go true le = omega arith
    go false le = omega arith
