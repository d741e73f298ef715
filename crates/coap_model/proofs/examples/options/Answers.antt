use Rattle.std.proofs.Common.{refl}
use Rattle.coap_message.specs.Reading.{read_message, body_at, options_within, option_at, extended}
use Rattle.coap_message.specs.Spelling.{spelling, option_spelling}
use Rattle.coap_message.specs.Uint.{uint_spelling}
use Rattle.std.specs.Net.Reader.{read_number, read_octet, read_ipv4}
use Rattle.coap_uri.specs.Address.{ipv4_of, ipv6_between}
use Rattle.coap_target.specs.Request.{by_scheme, request_target}
use Rattle.coap_target.specs.Routes.{mapped_target}
use Rattle.coap_forward.specs.Messages.{token_of}
use Rattle.coap_model.specs.Keys.{target_sent, key_sent}
use Rattle.coap_forward.specs.Forms.{target_options, form_fits}
use Rattle.coap_model.specs.Verdicts.{verdict_of}
use Rattle.coap_forward.specs.Answers.{answer_of}
use Rattle.coap_forward.specs.Changes.{changed_by}
use Rattle.coap_message.specs.Spelling.{with_id}
use Rattle.coap_model.specs.Step.{message_in}
use Rattle.coap_model.proofs.examples.options.Goals as goal

pub returns : goal.returns
unfolding ipv4_of ipv6_between read_number read_octet read_ipv4 target_sent key_sent read_message body_at options_within option_at extended spelling option_spelling uint_spelling mapped_target by_scheme request_target token_of target_options verdict_of form_fits answer_of changed_by with_id message_in
returns c = record { form = refl; read_back = refl; odd_form = refl; own_tag = refl; of_waiter = refl; sent_on = refl; held = refl; other_tag = refl; held_bytes = refl; accepted = refl; observed = refl; long_observed = refl; odd_observe = refl; safe = refl; not_safe = refl; fits = refl; does_not = refl; refused = refl; no_map = refl; to_sensor = refl }
