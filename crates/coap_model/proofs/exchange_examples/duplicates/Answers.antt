use Rattle.std.proofs.Common.{refl}
use Rattle.coap_message.specs.Reading.{read_message, body_at, options_within, option_at, extended}
use Rattle.coap_message.specs.Spelling.{spelling, option_spelling}
use Rattle.coap_message.specs.Uint.{uint_spelling}
use Rattle.coap_target.specs.Request.{request_target}
use Rattle.coap_target.specs.Routes.{mapped_target}
use Rattle.coap_forward.specs.Messages.{token_of}
use Rattle.coap_forward.specs.Forms.{target_options, form_fits}
use Rattle.coap_model.specs.Verdicts.{verdict_of}
use Rattle.coap_forward.specs.Answers.{answer_of}
use Rattle.coap_forward.specs.Changes.{changed_by}
use Rattle.coap_message.specs.Spelling.{with_id}
use Rattle.coap_model.specs.Step.{message_in}
use Rattle.coap_model.proofs.exchange_examples.duplicates.Goals as goal

pub returns : goal.returns
unfolding read_message body_at options_within option_at extended spelling option_spelling uint_spelling mapped_target request_target token_of target_options verdict_of form_fits answer_of changed_by with_id message_in
returns c = record { non_again = refl; non_anew = refl; con_again = refl; con_anew = refl; of_one_id = refl; no_room = refl; hit = refl; opened_again = refl; opened_anew = refl; hit_again = refl; hit_anew = refl; con_hit_again = refl; con_hit_anew = refl; busy_again = refl; busy_anew = refl; con_busy_again = refl; con_busy_anew = refl; con_opened_again = refl; silent_again = refl; silent_anew = refl; no_id = refl; held = refl; held_of_none = refl; counted = refl }
