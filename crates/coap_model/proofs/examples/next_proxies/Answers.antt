use Rattle.std.proofs.Common.{refl}
use Rattle.coap_message.specs.Reading.{read_message, body_at, options_within, option_at, extended}
use Rattle.coap_message.specs.Spelling.{spelling, option_spelling}
use Rattle.coap_message.specs.Uint.{uint_spelling}
use Rattle.std.specs.Fmt.{digits}
use Rattle.std.specs.Net.Reader.{read_number, read_octet, read_ipv4}
use Rattle.coap_uri.specs.Address.{ipv4_of, ipv6_between}
use Rattle.coap_target.specs.Request.{by_scheme, request_target}
use Rattle.coap_target.specs.Routes.{mapped_target}
use Rattle.coap_forward.specs.Messages.{token_of}
use Rattle.coap_model.specs.Keys.{target_sent, key_sent}
use Rattle.coap_forward.specs.Forms.{target_options, form_fits}
use Rattle.coap_model.specs.Verdicts.{verdict_of}
use Rattle.coap_forward.specs.Answers.{answer_of}
use Rattle.coap_forward.specs.Changes.{changed_by}
use Rattle.coap_message.specs.Spelling.{with_id}
use Rattle.coap_model.specs.Step.{message_in}
use Rattle.coap_model.proofs.examples.next_proxies.Goals as goal

pub returns : goal.returns
unfolding digits ipv4_of ipv6_between read_number read_octet read_ipv4 target_sent key_sent read_message body_at options_within option_at extended spelling option_spelling uint_spelling mapped_target by_scheme request_target token_of target_options verdict_of form_fits answer_of changed_by with_id message_in
returns c = record { nowhere = refl; other_ports = refl; shared = refl; of_an_address = refl; of_a_known_host = refl; local = refl; refused = refl; without_names = refl; impostor = refl; validated = refl; changed = refl; form = refl; read_back = refl; of_waiter = refl; port_alone = refl; held = refl }
