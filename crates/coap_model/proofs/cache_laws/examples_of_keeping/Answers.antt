use Rattle.std.proofs.Common.{refl}
use Rattle.coap_forward.specs.Messages.{token_of}
use Rattle.coap_model.proofs.cache_laws.examples_of_keeping.Goals as goal

pub returns : goal.returns
unfolding token_of
returns c = record { size = refl; room = refl; a_byte_less = refl; an_entry_less = refl; in_place = refl; alone = refl; alone_too_large = refl; given_up = refl; not_there = refl; to_the_front = refl; first_size = refl; stored = refl }
