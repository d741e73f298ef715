use Rattle.std.proofs.Common.{refl}
use Rattle.coap_message.specs.Reading.{read_message, body_at, options_within, option_at, extended}
use Rattle.coap_message.specs.Spelling.{spelling, option_spelling}
use Rattle.test_definitions.proofs.messages.examples_of_the_standard.Goals as goal

pub returns : goal.returns
unfolding read_message body_at options_within option_at extended spelling option_spelling
returns c = record {
  asking_is_read = refl;
  asking_is_spelled = refl;
  asking_by_token_is_read = refl;
  asking_by_token_is_spelled = refl;
  told_is_read = refl;
  told_is_spelled = refl;
  told_by_token_is_read = refl;
  told_by_token_is_spelled = refl;
  acknowledgement_is_read = refl;
  acknowledgement_is_spelled = refl;
  reset_is_read = refl;
  reset_is_spelled = refl;
}
