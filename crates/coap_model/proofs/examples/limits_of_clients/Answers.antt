use Rattle.std.proofs.Common.{refl}
use Rattle.coap_message.specs.Reading.{read_message, body_at, options_within, option_at, extended}
use Rattle.coap_message.specs.Spelling.{spelling, option_spelling}
use Rattle.coap_message.specs.Uint.{uint_spelling}
use Rattle.coap_target.specs.Request.{request_target}
use Rattle.coap_target.specs.Routes.{mapped_target}
use Rattle.coap_forward.specs.Messages.{token_of}
use Rattle.coap_forward.specs.Forms.{target_options, form_fits}
use Rattle.coap_model.specs.Verdicts.{verdict_of}
use Rattle.coap_forward.specs.Answers.{answer_of}
use Rattle.coap_forward.specs.Changes.{changed_by}
use Rattle.coap_message.specs.Spelling.{with_id}
use Rattle.coap_model.specs.Step.{message_in}
use Rattle.coap_model.proofs.examples.limits_of_clients.Goals as goal

pub returns : goal.returns
unfolding read_message body_at options_within option_at extended spelling option_spelling uint_spelling mapped_target request_target token_of target_options verdict_of form_fits answer_of changed_by with_id message_in
returns c = record { one_each = refl; two_of_one = refl; until_closed = refl; one_at_all = refl; one_waits = refl; until_acknowledged = refl; one_record_each = refl; one_of_each_type = refl; of_the_origin = refl; counted = refl; of_another = refl; of_an_origin = refl; until_expired = refl; expired = refl; con_limit = refl; non_limit = refl; opened_once = refl; opened_too = refl; opened_none = refl; waits_twice = refl; waits_once = refl; remembered = refl; forgotten = refl; none_of_that_type = refl }
