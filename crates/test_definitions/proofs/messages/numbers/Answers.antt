use Rattle.std.proofs.Common.{refl}
use Rattle.coap_message.specs.Uint.{uint_spelling}
use Rattle.test_definitions.proofs.messages.numbers.Goals as goal

pub returns : goal.returns
unfolding uint_spelling
returns c = record { no_bytes = refl; high_byte_first = refl; zeros_at_the_head = refl; zero = refl; one_byte = refl; two_bytes = refl; least_of_two = refl; least_of_three = refl; greatest = refl }
