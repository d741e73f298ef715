-- The targets that a response changes are targets.
use Rattle.std.proofs.Common.{◌≡◌, ℕ, ◌≤◌, Bool, true, false, cond, List, [], ◌∷◌, length, map, filter, refl, subst}
use Rattle.std.specs.Prelude.{◌==◌}
use Rattle.std.specs.List.{AllByRecursion}
use Rattle.std.proofs.lemmas.Bool.{and_parts, eqb-true}
use Rattle.coap_message.specs.Message.{Message}
use Rattle.coap_option.specs.declared.side.Side.TheVariants.{Response}
use Rattle.coap_option.specs.Places.{PlacedOption, places}
use Rattle.coap_option.specs.Recognition.{is_recognised}
use Rattle.coap_option.specs.Selection.{is_of}
use Rattle.coap_endpoint.specs.Target.{IsShort}
use Rattle.coap_forward.specs.Changes.{values_at}

-- options of this number are recognised only where they are short
abbrev AreShort : ℕ → Type 0
AreShort number = (length before : ℕ) → is_recognised Response number length before ≡ true → length ≤ 255

-- so are the values of those that are recognised
values-short : (number : ℕ) → AreShort number → (m : Message) → AllByRecursion IsShort (values_at number m)
values-short number short m = all (places m.options)
  where
    of : (p : PlacedOption) → is_of Response number p ≡ true → IsShort p.option.value
    of p is =
        let both = and_parts (p.option.number == number) (is_recognised Response p.option.number (length p.option.value) p.before) is in
        short (length p.option.value) p.before (subst (λ (n : ℕ). is_recognised Response n (length p.option.value) p.before ≡ true) (eqb-true p.option.number number both.0) both.1)

    all : (ps : List PlacedOption) → AllByRecursion IsShort (map (λ p. p.option.value) (filter (is_of Response number) ps))
    all [] = tt
    all (p ∷ ps) = go (is_of Response number p) refl (all ps)
      where
        go : (b : Bool) → is_of Response number p ≡ b → AllByRecursion IsShort (map (λ q. q.option.value) (filter (is_of Response number) ps)) → AllByRecursion IsShort (map {A = PlacedOption} (λ q. q.option.value) (cond b (p ∷ filter (is_of Response number) ps) (filter (is_of Response number) ps)))
        go true e rest = (of p e, rest)
        go false e rest = rest
