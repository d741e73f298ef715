use Rattle.std.proofs.Common.{refl}
use Rattle.std.specs.Fmt.{digits}
use Rattle.coap_message.specs.Reading.{read_message, body_at, options_within, option_at, extended}
use Rattle.coap_message.specs.Spelling.{spelling, option_spelling, with_id}
use Rattle.coap_message.specs.Uint.{uint_spelling}
use Rattle.coap_target.specs.Request.{request_target}
use Rattle.coap_target.specs.Routes.{mapped_target}
use Rattle.coap_forward.specs.Messages.{token_of}
use Rattle.coap_forward.specs.Forms.{target_options, form_fits}
use Rattle.coap_forward.specs.Answers.{answer_of}
use Rattle.coap_forward.specs.Changes.{changed_by}
use Rattle.coap_model.specs.Verdicts.{verdict_of}
use Rattle.coap_model.specs.Step.{message_in}
use Rattle.coap_explain.proofs.examples.other_lines.Goals as goal

pub returns : goal.returns
unfolding read_message body_at options_within option_at extended spelling option_spelling uint_spelling mapped_target request_target token_of target_options verdict_of form_fits answer_of changed_by with_id message_in digits
returns c = record { lost = refl; time = refl }
