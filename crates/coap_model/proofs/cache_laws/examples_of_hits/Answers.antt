use Rattle.std.proofs.Common.{refl}
use Rattle.coap_message.specs.Reading.{read_message, body_at, options_within, option_at, extended}
use Rattle.coap_message.specs.Spelling.{spelling, option_spelling}
use Rattle.coap_message.specs.Uint.{uint_spelling}
use Rattle.coap_target.specs.Request.{request_target}
use Rattle.coap_target.specs.Routes.{mapped_target}
use Rattle.coap_forward.specs.Messages.{token_of}
use Rattle.coap_model.specs.Keys.{target_sent}
use Rattle.coap_forward.specs.Forms.{target_options, form_fits}
use Rattle.coap_model.specs.Verdicts.{verdict_of}
use Rattle.coap_forward.specs.Answers.{answer_of}
use Rattle.coap_forward.specs.Changes.{changed_by}
use Rattle.coap_message.specs.Spelling.{with_id}
use Rattle.coap_model.specs.Step.{message_in}
use Rattle.coap_model.proofs.cache_laws.examples_of_hits.Goals as goal

pub returns : goal.returns
unfolding target_sent read_message body_at options_within option_at extended spelling option_spelling uint_spelling mapped_target request_target token_of target_options verdict_of form_fits answer_of changed_by with_id message_in
returns c = record { at_once = refl; in_the_first_second = refl; in_the_last_second = refl; at_the_last_moment = refl; a_moment_later = refl; from_its_coming = refl; an_error = refl; an_error_of_class_5 = refl; an_error_no_more = refl; without_max_age = refl; max_age_0 = refl; an_error_of_max_age_0 = refl; a_change = refl; in_73_bytes = refl; not_in_72_bytes = refl; not_in_no_bytes = refl; counted = refl; outgrown = refl; room_to_grow = refl; two_keys = refl; used_since = refl; with_size = refl; with_accept = refl; greatest_token = refl; held = refl; other_tag = refl; last_id = refl }
