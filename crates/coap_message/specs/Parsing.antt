-- What the steps of reading return, as lists.
use Rattle.std.specs.Prelude.{ℕ, List}
use Rattle.coap_message.specs.declared.reading.Parsed.{Parsed}
use Rattle.coap_message.specs.declared.reading.BodyRef.{BodyRef}
use Rattle.coap_message.specs.declared.options.Opt.{Opt}
use Rattle.coap_message.specs.Reading.{Body}

abbrev pub parsed : Parsed → Opt × List ℕ
parsed p = (record { number = p.number; value = p.value.now }, p.rest.now)

abbrev pub body_of : BodyRef → Body
body_of c = record { token = c.token.now; options = c.options; payload = c.payload.now }
