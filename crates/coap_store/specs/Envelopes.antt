-- What a client is sent in an envelope.
use Rattle.std.specs.Prelude.{ℕ, Option}
use Rattle.coap_message.specs.Message.{Message}
use Rattle.coap_store.specs.Showing.{addressed, shown}
use Rattle.coap_store.specs.declared.envelope.Envelope.{Envelope}

-- a message, in an envelope: with its type, Message ID and token
abbrev pub enclosed : Envelope → Message → Message
enclosed envelope m = addressed envelope.kind envelope.id envelope.token.now m

-- what the client is sent for a response: a 2.03 if it holds it, else the response itself
abbrev pub shown_to : Envelope → Message → Option ℕ → Message
shown_to envelope m left = enclosed envelope (shown m left envelope.tags.now)
