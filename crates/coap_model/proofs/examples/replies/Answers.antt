use Rattle.std.proofs.Common.{refl}
use Rattle.coap_message.specs.Reading.{read_message, body_at, options_within, option_at, extended}
use Rattle.coap_message.specs.Spelling.{spelling, option_spelling}
use Rattle.coap_message.specs.Uint.{uint_spelling}
use Rattle.coap_target.specs.Request.{request_target}
use Rattle.coap_target.specs.Routes.{mapped_target}
use Rattle.coap_forward.specs.Messages.{token_of}
use Rattle.coap_model.specs.Keys.{target_sent}
use Rattle.coap_forward.specs.Forms.{target_options, form_fits}
use Rattle.coap_model.specs.Verdicts.{verdict_of}
use Rattle.coap_forward.specs.Answers.{answer_of}
use Rattle.coap_forward.specs.Changes.{changed_by}
use Rattle.coap_message.specs.Spelling.{with_id}
use Rattle.coap_model.specs.Step.{message_in}
use Rattle.coap_model.proofs.examples.replies.Goals as goal

pub returns : goal.returns
unfolding target_sent read_message body_at options_within option_at extended spelling option_spelling uint_spelling mapped_target request_target token_of target_options verdict_of form_fits answer_of changed_by with_id message_in
returns c = record { tokens = refl; two_faults = refl; of_class_3 = refl; changed_with_age = refl; two_ages = refl; beside_an_age = refl; path_in_response = refl; greatest_age = refl; shorter_age = refl; last_second = refl; second_that_began = refl; none_left = refl; of_one_moment = refl; request_first = refl; client_first = refl }
