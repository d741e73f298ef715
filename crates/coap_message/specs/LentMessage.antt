-- A message whose parts are borrowed, as contracts see it.
use Rattle.coap_message.specs.declared.message.MessageRef.TheInside.{Inside}
use Rattle.coap_message.specs.Message.{Message, message_of}

abbrev pub lent : Inside → Message
lent m =
    message_of (record { kind = m.kind; code = m.code; id = m.id }) m.token.now m.options
    m.payload.now
