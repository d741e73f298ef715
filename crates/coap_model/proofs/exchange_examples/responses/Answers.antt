use Rattle.std.proofs.Common.{refl}
use Rattle.coap_message.specs.Reading.{read_message, body_at, options_within, option_at, extended}
use Rattle.coap_message.specs.Spelling.{spelling, option_spelling}
use Rattle.coap_message.specs.Uint.{uint_spelling}
use Rattle.std.specs.Net.Reader.{read_number, read_octet, read_ipv4}
use Rattle.coap_uri.specs.Address.{ipv4_of, ipv6_between}
use Rattle.coap_target.specs.Request.{by_scheme, request_target}
use Rattle.coap_target.specs.Routes.{mapped_target}
use Rattle.coap_forward.specs.Messages.{token_of}
use Rattle.coap_model.specs.Keys.{target_sent, key_sent}
use Rattle.coap_forward.specs.Forms.{target_options, form_fits}
use Rattle.coap_model.specs.Verdicts.{verdict_of}
use Rattle.coap_forward.specs.Answers.{answer_of}
use Rattle.coap_forward.specs.Changes.{changed_by}
use Rattle.coap_message.specs.Spelling.{with_id}
use Rattle.coap_model.specs.Step.{message_in}
use Rattle.coap_model.proofs.exchange_examples.responses.Goals as goal

pub returns : goal.returns
unfolding ipv4_of ipv6_between read_number read_octet read_ipv4 target_sent key_sent read_message body_at options_within option_at extended spelling option_spelling uint_spelling mapped_target by_scheme request_target token_of target_options verdict_of form_fits answer_of changed_by with_id message_in
returns c = record { acked_at_last = refl; acked_too_late = refl; reset_at_last = refl; reset_too_late = refl; answered_late = refl; separate_late = refl; acked_again = refl; acked_silence = refl; acked_in_haste = refl; of_others = refl; reset_by_origin = refl; reset_after = refl; con_response = refl; non_response = refl; con_before = refl; non_before = refl; block_in_separate = refl; of_impostors = refl; after_giving_up = refl; no_room = refl; no_room_needed = refl; one_id = refl; lets_go_answered = refl; lets_go_acked = refl; lets_go_reset = refl; due_again = refl; due_at_its_end = refl; due_to_serve = refl; awaited_con = refl; awaited_non = refl; awaited_ack = refl; other_id = refl; other_token = refl; other_source = refl; not_sent = refl; awaited_still = refl; awaited_so = refl; no_more = refl; bare_ack = refl; bare_reset = refl; not_bare_con = refl; not_bare_non = refl; not_bare_response = refl; recorded_con = refl; not_recorded_non = refl; not_recorded_ack = refl; recorded_con_request = refl; recorded_non_request = refl; not_recorded_request = refl; not_recorded_empty = refl; remembers_con = refl; remembers_no_non = refl; remembers_no_ack = refl; remembers_no_acked = refl; answer_of_reset = refl; waits = refl; is_sent = refl; is_acked = refl; is_reset = refl; is_got = refl; is_closed = refl; outstanding = refl; none_outstanding = refl; none_after_reset = refl; second_outstanding = refl; no_id = refl; remembered = refl; forgotten = refl; apart = refl; none_of_non = refl }
