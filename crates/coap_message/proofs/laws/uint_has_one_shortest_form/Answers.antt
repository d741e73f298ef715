use Rattle.coap_message.proofs.Uints.{uint-uint_spelling, uint_spelling-shortest, one_shortest}
use Rattle.coap_message.proofs.laws.uint_has_one_shortest_form.Goals as goal

pub returns : goal.returns
returns c = record { value = uint-uint_spelling; shortest = uint_spelling-shortest; no_other = one_shortest }
