-- The Max-Age that is found fits into four bytes.
use Rattle.std.proofs.Common.{◌≡◌, ◌==◌, ◌&&◌, ◌≤◌, Bool, true, false, cond, Some, List, [], ◌∷◌, length, find, nat_le, refl}
use Rattle.std.proofs.lemmas.Bool.{and_parts, eqb-true, leb-true}
use Rattle.std.specs.Option.{option_map}
use Rattle.coap_message.specs.declared.options.Opt.{Opt}
use Rattle.coap_option.specs.declared.side.Side.TheVariants.{Response}
use Rattle.coap_option.specs.Places.{PlacedOption, is_recognised_at}
use Rattle.coap_option.specs.Selection.{is_of}

-- a recognised Max-Age has at most four bytes
length-max_age : (p : PlacedOption) → is_of Response 14 p ≡ true → length p.option.value ≤ 4
length-max_age p holds =
    let parts = and_parts (p.option.number == 14) (is_recognised_at Response p) holds in
    let fits : (nat_le 0 (length p.option.value) && nat_le (length p.option.value) 4 && p.before == 0) ≡ true = rw (eqb-true p.option.number 14 parts.0) at parts.1 in
    leb-true (length p.option.value) 4 (and_parts (nat_le 0 (length p.option.value)) (nat_le (length p.option.value) 4) (and_parts (nat_le 0 (length p.option.value) && nat_le (length p.option.value) 4) (p.before == 0) fits).0).1

-- so has the first one found
pub length-first_max_age : (ps : List PlacedOption) (x : Opt) → option_map (λ p. p.option) (find (is_of Response 14) ps) ≡ Some x → length x.value ≤ 4
length-first_max_age [] x found = absurd (cc)
length-first_max_age (p ∷ ps) x found = go (is_of Response 14 p) refl (length-first_max_age ps x) found
  where
    go : (b : Bool) → is_of Response 14 p ≡ b → (option_map (λ q. q.option) (find (is_of Response 14) ps) ≡ Some x → length x.value ≤ 4) → option_map (λ q. q.option) (cond b (Some p) (find (is_of Response 14) ps)) ≡ Some x → length x.value ≤ 4
    go true holds rest found = let same : p.option ≡ x = cc in rw (← same) (length-max_age p holds)
    go false fails rest found = rest found
