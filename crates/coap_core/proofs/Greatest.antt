-- What is found in sorted holdings holds of the items that they are of.
use Rattle.std.proofs.Common.{◌≡◌, ℕ, ◌+◌, ◌<◌, List, [], ◌∷◌, length, cond, Option, Some, None, IfNone, IfSome, refl, sym, ap, ◌∙◌, subst, arith}
use Rattle.std.specs.List.{sum_by}
use Rattle.std.specs.List.Sorted.{IsPermutation}
use Rattle.std.proofs.lemmas.List.Elements.{All-from_recursion, recursion_from_All}
use Rattle.std.proofs.lemmas.List.Sorted.{All-permutation, sum_by-IsPermutation}
use Rattle.std.proofs.lemmas.List.Sums.{sum_by-cons}
use Rattle.coap_endpoint.specs.declared.endpoint.Endpoint.{Endpoint}
use Rattle.coap_endpoint.specs.declared.endpoint.Ip.{Ip}
use Rattle.coap_endpoint.specs.Alike.{endpoint_itself}
use Rattle.coap_endpoint.specs.Endpoint.{same_endpoint}
use Rattle.coap_core.specs.declared.most.Holding.{Holding}
use Rattle.coap_core.specs.declared.most.Sum.{Sum}
use Rattle.coap_core.specs.Holdings.{AreOf, IsGreatest, IsGreatestOf, had_by, held_in, holdings_of}
use Rattle.coap_core.proofs.Totals.{held-length, held-of, ports-of}

-- what an endpoint has is a sum
had-sum : (e : Endpoint) (ps : List Holding) → had_by e ps ≡ sum_by (λ p. cond (same_endpoint p.at e) p.count 0) ps
had-sum e [] = refl
had-sum e (p ∷ ps) = ap (λ n. cond (same_endpoint p.at e) p.count 0 + n) (had-sum e ps) ∙ sym (sum_by-cons (λ q. cond (same_endpoint q.at e) q.count 0) p ps)

-- so it stays in another order
pub are-permuted : (es : List Endpoint) (ps qs : List Holding) → IsPermutation ps qs → AreOf es ps → AreOf es qs
are-permuted es ps qs moved are = record {
  some = recursion_from_All (λ p. 0 < p.count) qs (All-permutation (λ p. 0 < p.count) ps qs moved (All-from_recursion (λ p. 0 < p.count) ps are.some));
  each = λ e. had-sum e qs ∙ sum_by-IsPermutation (λ p. cond (same_endpoint p.at e) p.count 0) ps qs moved ∙ sym (had-sum e ps) ∙ are.each e;
}

-- no address has more than there are items
pub few-of : (es : List Endpoint) (ps : List Holding) (most : ℕ) → AreOf es ps → length es < most → (ip : Ip) → held_in ip ps < most
few-of es ps most are less ip = let held = held-of es ps are ip in let within = held-length ip es in omega arith

-- there are no items if there are no holdings
none-of : (es : List Endpoint) → AreOf es [] → es ≡ []
none-of [] are = refl
none-of (e ∷ es) are = absurd (
    let none = are.each e in
    let one : had_by e (holdings_of (e ∷ es)) ≡ 1 + had_by e (holdings_of es) = (let own = endpoint_itself e in rw own refl) in
    omega arith)

-- so none is found only if there are none
pub none-there : (es : List Endpoint) (ps : List Holding) (found : Option Sum) → AreOf es ps → IfNone found (ps ≡ []) → IfNone found (es ≡ [])
none-there es ps None are none = none-of es (subst (AreOf es) none are)
none-there es ps (Some s) are none = tt

-- and the greatest of the holdings is that of the items
greatest-of : (es : List Endpoint) (ps : List Holding) (s : Sum) → AreOf es ps → IsGreatest ps s → IsGreatestOf es s
greatest-of es ps s are is = record {
  held = is.held ∙ held-of es ps are s.last.ip;
  ports = is.ports ∙ ports-of es ps are s.last.ip;
  most = λ ip. (let held = held-of es ps are ip in let most = is.most ip in omega arith);
  lowest = λ ip equal. is.lowest ip (held-of es ps are ip ∙ equal);
}

-- if one is found
pub greatest-there : (es : List Endpoint) (ps : List Holding) (found : Option Sum) → AreOf es ps → IfSome found (λ s. IsGreatest ps s) → IfSome found (λ s. IsGreatestOf es s)
greatest-there es ps None are is = tt
greatest-there es ps (Some s) are is = greatest-of es ps s are is
