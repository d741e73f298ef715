-- Messages that may be shared.
use Rattle.coap_message.specs.Message.{Message}
use Rattle.coap_store.specs.declared.shared_message.Kept.{Kept}
use Rattle.coap_store.specs.declared.shared_message.Kept.TheVariants.{Alone, Together}

-- the message that is kept, alone or together
abbrev pub message_in : Kept → Message
message_in (Alone message) = message
message_in (Together shared) = shared.value
