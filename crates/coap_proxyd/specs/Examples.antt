-- Settings and configurations of the examples.
use Rattle.std.specs.Prelude.{List, false, None}
use Rattle.coap_config.specs.Config.{Said}
use Rattle.coap_config.specs.Texts.{Text}
use Rattle.coap_config.specs.declared.settings.Settings.{Settings}
use Rattle.coap_proxyd.specs.Planning.{no_config}

-- no option is given
abbrev pub no_settings : Settings
no_settings = record {
  address = None;
  port = None;
  names = None;
  config = None;
  map = None;
  replay = false;
  first_id = None;
  salt = None;
  turns = None;
  recording = None;
  explain = false;
  stats = None;
  stats_file = None;
  log = false;
  record_bytes = None;
  receive_buffer = None;
}

-- a configuration with these own names, and nothing else
abbrev pub named : List Text → Said
named names = record no_config { names = names }
