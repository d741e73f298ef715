use Rattle.std.proofs.Common.{refl}
use Rattle.coap_message.specs.Reading.{read_message, body_at, options_within, option_at, extended}
use Rattle.coap_message.specs.Spelling.{spelling, option_spelling}
use Rattle.test_definitions.proofs.messages.more_messages.Goals as goal

pub returns : goal.returns
unfolding read_message body_at options_within option_at extended spelling option_spelling
returns c = record {
  get_is_read = refl;
  get_is_spelled = refl;
  content_is_read = refl;
  content_is_spelled = refl;
  longest_token_is_read = refl;
  longest_token_is_spelled = refl;
  last_option_is_read = refl;
  last_option_is_spelled = refl;
  short = refl;
  version = refl;
  format = (refl, (refl, (refl, (refl, (refl, (refl, tt))))));
  boundaries = (refl, refl, refl, refl, refl, refl, refl, refl, refl, refl);
}
