-- A configuration and its faults, as contracts see them.
use Rattle.std.specs.Prelude.{List, map, codes, ◌++◌, Vec, String}
use Rattle.coap_target.specs.RouteTexts.{Pair, pair_of}
use Rattle.coap_config.specs.Config.{Said}
use Rattle.coap_config.specs.ProxyOption.{bytes_of}
use Rattle.coap_config.specs.Texts.{Text}
use Rattle.coap_config.specs.declared.config.Config.{Config}
use Rattle.coap_config.specs.declared.config_error.ConfigError.{ConfigError}
use Rattle.coap_config.specs.declared.config_error.ConfigError.TheVariants.{Syntax, Key, Value, Routes, OutOfMemory}

abbrev pub pairs_of : {A B C : Type 0} → Vec (String A × String B) C → List Pair
pairs_of pairs = map pair_of pairs.items

abbrev pub seen : Config → Said
seen config = record {
  limits = config.limits;
  names = bytes_of config.names;
  hosts = pairs_of config.hosts;
  maps = pairs_of config.maps;
}

-- the text that is printed for a fault
abbrev pub fault_text : ConfigError → Text
fault_text Syntax = codes "syntax"
fault_text (Key name) = codes "key " ++ name
fault_text (Value name) = codes "value " ++ name
fault_text (Routes error) = codes "routes"
fault_text OutOfMemory = codes "out of memory"
