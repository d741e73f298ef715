use Rattle.std.proofs.Common.{rules, ap}
use Rattle.coap_message.specs.Message.{Message}
use Rattle.coap_message.specs.Spelling.{IsMessage}
use Rattle.coap_message.proofs.Spellings.{spelled}
use Rattle.coap_message.proofs.writing.encode_into.Goals as goal

pub returns-clause-spelled : goal.returns-clause-spelled
returns-clause-spelled c =
    let message : IsMessage c.args.message.now = search rules in
    rw (c.in_default.ensures.written.0, c.content.ensures.options, c.content.ensures.payload, ap (λ (m : Message). m.kind) c.message.view_is, ap (λ (m : Message). m.code) c.message.view_is, ap (λ (m : Message). m.id) c.message.view_is, ap (λ (m : Message). m.token) c.message.view_is) (spelled c.args.message.now message)

pub returns-in-Err-clause-full : goal.returns-in-Err-clause-full
returns-in-Err-clause-full c = search rules
