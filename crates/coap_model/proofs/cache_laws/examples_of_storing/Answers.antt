use Rattle.std.proofs.Common.{refl}
use Rattle.coap_message.specs.Reading.{read_message, body_at, options_within, option_at, extended}
use Rattle.coap_message.specs.Spelling.{spelling, option_spelling}
use Rattle.coap_message.specs.Uint.{uint_spelling}
use Rattle.coap_forward.specs.Answers.{answer_of}
use Rattle.coap_model.proofs.cache_laws.examples_of_storing.Goals as goal

pub returns : goal.returns
unfolding read_message body_at options_within option_at extended spelling option_spelling uint_spelling answer_of
returns c = record { content = refl; one_second = refl; no_second = refl; no_byte = refl; no_age = refl; not_found = refl; not_found_at_once = refl; server_error = refl; gateway_of_origin = refl; created = refl; changed = refl; class_3 = refl; own_gateway = refl }
