-- What follows the word for what a step did: why, found again from the message.
use Rattle.std.specs.Prelude.{ℕ, List, [], Result, Ok, Err}
use Rattle.coap_message.specs.declared.code.Code.{Code}
use Rattle.coap_message.specs.declared.error.DecodeError.{DecodeError}
use Rattle.coap_message.specs.Message.{Message}
use Rattle.coap_endpoint.specs.declared.endpoint.Endpoint.{Endpoint}
use Rattle.coap_model.specs.State.{State}
use Rattle.coap_option.specs.declared.side.Side.TheVariants.{Request}
use Rattle.coap_option.specs.Screening.{first_refused}
use Rattle.coap_explain.specs.Causes.{refusal_of}
use Rattle.coap_explain.specs.Lacks.{to_remember, usage_of}
use Rattle.coap_explain.specs.Words.{lacks_text, refusal_text}

-- behind the code with which a request was refused
abbrev pub refused_text : Code → Result Message DecodeError → List ℕ
refused_text code (Ok m) = refusal_text (refusal_of code (first_refused Request m.options))
refused_text code (Err e) = []

-- where there was no room for a record: which records have reached their limit
abbrev pub dropped_text : State → Endpoint → Result Message DecodeError → List ℕ
dropped_text w from (Ok m) = lacks_text (to_remember (usage_of w from) m.kind)
dropped_text w from (Err e) = []
