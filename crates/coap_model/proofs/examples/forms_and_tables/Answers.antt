use Rattle.std.proofs.Common.{refl, arith}
use Rattle.coap_message.specs.Reading.{read_message, body_at, options_within, option_at, extended}
use Rattle.coap_message.specs.Spelling.{spelling, option_spelling}
use Rattle.coap_message.specs.Uint.{uint_spelling}
use Rattle.coap_target.specs.Request.{request_target}
use Rattle.coap_target.specs.Routes.{mapped_target}
use Rattle.coap_forward.specs.Messages.{token_of}
use Rattle.coap_model.specs.Keys.{target_sent}
use Rattle.coap_forward.specs.Forms.{target_options, form_fits}
use Rattle.coap_model.specs.Verdicts.{verdict_of}
use Rattle.coap_forward.specs.Answers.{answer_of}
use Rattle.coap_forward.specs.Changes.{changed_by}
use Rattle.coap_message.specs.Spelling.{with_id}
use Rattle.coap_model.specs.Step.{message_in}
use Rattle.coap_model.proofs.examples.forms_and_tables.Goals as goal

pub returns : goal.returns
unfolding target_sent read_message body_at options_within option_at extended spelling option_spelling uint_spelling mapped_target request_target token_of target_options verdict_of form_fits answer_of changed_by with_id message_in
returns c = record { form = refl; own = refl; to_no_request = refl; of_no_request = refl; gateway = refl; greatest = refl; short_of_one = refl; short_of_two = refl; short_of_three = refl; for_want_of_memory = refl; read_back = refl; held_when_opened = refl; held_with_token = refl; held_with_host = refl; held_with_accept = refl; held_when_answered = refl; bound = refl; counted = refl; first_id = refl; salt = refl; turns = refl; one_memory = tt; any_memory = tt; no_datagram = refl; a_turn = (omega arith, tt, tt); none_due = refl; due_at_opening = refl }
