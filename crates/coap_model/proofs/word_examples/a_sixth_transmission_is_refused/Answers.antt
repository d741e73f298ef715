use Rattle.std.proofs.Common.{◌≤◌, ◌<◌, arith}
use Rattle.coap_model.proofs.ForgedWords.{five_are_spaced, six_are_spaced}
use Rattle.coap_model.proofs.word_examples.a_sixth_transmission_is_refused.Goals as goal

pub returns : goal.returns
returns c =
    record {
      five = record { few = omega arith; spaced = five_are_spaced };
      six = λ s. let few : 6 ≤ 5 = s.few in omega (arith, few);
      but_for_their_number = six_are_spaced;
      a_fifth = record { few = omega arith; soon = omega arith };
      a_sixth = λ m. let few : 4 < 4 = m.few in omega (arith, few);
    }
