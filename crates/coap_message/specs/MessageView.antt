-- A message of the program as contracts see it.
use Rattle.coap_message.specs.declared.message.Message.TheInside.{Inside}
use Rattle.coap_message.specs.Message.{Message, message_of}

abbrev pub seen : Inside → Message
seen m =
    message_of (record { kind = m.kind; code = m.code; id = m.id }) m.token m.options m.payload

abbrev pub kept : Message → Inside
kept m =
    record {
      kind = m.kind;
      code = m.code;
      id = m.id;
      token = m.token;
      options = m.options;
      payload = m.payload;
    }
