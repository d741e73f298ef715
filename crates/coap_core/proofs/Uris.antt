-- Requests that say their target by a URI, and those that don't.
use Rattle.std.proofs.Common.{◌≡◌, eqb, Bool, true, false, cond, List, [], ◌∷◌, None, refl, ap}
use Rattle.std.specs.Prelude.{◌==◌, ◌||◌, filter, map}
use Rattle.std.specs.List.{list_any}
use Rattle.coap_message.specs.declared.options.Opt.{Opt}
use Rattle.coap_message.specs.Message.{Message}
use Rattle.coap_target.specs.Request.{first_value, says_uri, value_of}
use Rattle.coap_target.specs.Routes.{values_of}

-- neither number is there
none-there : (os : List Opt) → list_any (λ (o : Opt). (o.number == 35) || (o.number == 39)) os ≡ false → (values_of 35 os ≡ []) × (values_of 39 os ≡ [])
none-there [] e = (refl, refl)
none-there (o ∷ os) e = go (eqb o.number 35) (eqb o.number 39) (none-there os) e
  where
    go : (a b : Bool) → (list_any (λ (p : Opt). (p.number == 35) || (p.number == 39)) os ≡ false → (values_of 35 os ≡ []) × (values_of 39 os ≡ [])) → ((a || b) || list_any (λ (p : Opt). (p.number == 35) || (p.number == 39)) os) ≡ false
        → (map (λ p. p.value) (cond a (o ∷ filter (λ p. p.number == 35) os) (filter (λ p. p.number == 35) os)) ≡ []) × (map (λ p. p.value) (cond b (o ∷ filter (λ p. p.number == 39) os) (filter (λ p. p.number == 39) os)) ≡ [])
    go true b rest f = absurd cc
    go false true rest f = absurd cc
    go false false rest f = rest f

-- a request that says no URI has neither proxy option
pub no-uri : (m : Message) → says_uri m ≡ false → (value_of 35 m ≡ None) × (value_of 39 m ≡ None)
no-uri m e = let none = none-there m.options e in (ap first_value none.0, ap first_value none.1)
