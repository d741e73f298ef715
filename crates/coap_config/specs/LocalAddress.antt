-- The value of `-A`.
use Rattle.std.specs.Prelude.{◌++◌, codes, Option}
use Rattle.std.specs.Option.{option_or}
use Rattle.coap_endpoint.specs.declared.endpoint.Ip.{Ip}
use Rattle.coap_uri.specs.Address.{ip_of}
use Rattle.coap_config.specs.Texts.{Text}

-- an address, or a text that is one in brackets
abbrev pub local_address_of : Text → Option Ip
local_address_of text = option_or (ip_of text) (ip_of (codes "[" ++ text ++ codes "]"))
