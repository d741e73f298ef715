-- The value of `--map`.
use Rattle.std.specs.Prelude.{Result, ok_or}
use Rattle.coap_target.specs.RouteTexts.{Pair}
use Rattle.coap_config.specs.Texts.{Text, cut_at}
use Rattle.coap_config.specs.declared.error.MapOptionError.{MapOptionError}
use Rattle.coap_config.specs.declared.error.MapOptionError.TheVariants.{NoEquals}

-- a prefix and an origin, with the first `=` between them
abbrev pub map_option_of : Text → Result Pair MapOptionError
map_option_of text = ok_or (cut_at 0x3D text) NoEquals
