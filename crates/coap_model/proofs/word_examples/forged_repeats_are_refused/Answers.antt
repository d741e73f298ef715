use Rattle.std.proofs.Common.{◌≡◌, ℕ, List, Option, refl, ap, get_or, arith}
use Rattle.std.specs.Option.{option_map_or}
use Rattle.coap_endpoint.specs.declared.endpoint.Endpoint.{Endpoint}
use Rattle.coap_model.proofs.word_examples.forged_repeats_are_refused.Goals as goal

pub returns : goal.returns
returns c =
    record {
      as_before = record { outcome = refl; again = (refl, refl) };
      another = λ t. let id : 8 ≡ 7 = ap (λ (l : List ℕ). get_or l 3 0) t.again.1 in omega (arith, id);
      nothing = λ t. let e = t.again.0 in cc;
      to_another = λ t. let port : 40002 ≡ 40001 = ap (λ (to : Option Endpoint). option_map_or (λ (e : Endpoint). e.port) to 0) t.again.0 in omega (arith, port);
      in_another_word = λ t. let e = t.outcome in cc;
    }
