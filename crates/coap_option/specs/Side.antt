-- The side of a message: a code of class 0 is a method or Empty (RFC 7252, 3).
use Rattle.std.specs.Prelude.{◌==◌, ◌/◌, if◌then◌else◌}
use Rattle.coap_message.specs.declared.code.Code.{Code}
use Rattle.coap_option.specs.declared.side.Side.{Side}
use Rattle.coap_option.specs.declared.side.Side.TheVariants.{Request, Response}

abbrev pub side_of : Code → Side
side_of code = if code.0 / 32 == 0 then Request else Response
