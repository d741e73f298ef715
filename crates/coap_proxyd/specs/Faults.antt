-- Faults of the program.
use Rattle.std.specs.Prelude.{ℕ, List, ◌++◌, codes, string_bytes}
use Rattle.std.specs.Fmt.{decimal}
use Rattle.coap_port.specs.declared.error.DriveError.{DriveError}
use Rattle.coap_port.specs.declared.error.DriveError.TheVariants as drive
use Rattle.coap_uri.specs.declared.error.UriError.{UriError}
use Rattle.coap_uri.specs.declared.error.UriError.TheVariants as uri
use Rattle.coap_config.specs.ConfigView as config_text
use Rattle.coap_config.specs.declared.config_error.ConfigError.{ConfigError}
use Rattle.coap_config.specs.declared.config_error.ConfigError.TheVariants as config
use Rattle.coap_config.specs.declared.error.MapOptionError.{MapOptionError}
use Rattle.coap_config.specs.declared.error.MapOptionError.TheVariants as map
use Rattle.coap_config.specs.declared.error.ProxyOptionError.{ProxyOptionError}
use Rattle.coap_config.specs.declared.error.ProxyOptionError.TheVariants as proxy
use Rattle.coap_config.specs.declared.settings.WordsError.{WordsError}
use Rattle.coap_config.specs.declared.settings.WordsError.TheVariants as words
use Rattle.coap_replay.specs.declared.error.ReplayError.{ReplayError}
use Rattle.coap_replay.specs.declared.error.ReplayError.TheVariants as errors
use Rattle.coap_proxyd.specs.declared.fault.Fault.{Fault}
use Rattle.coap_proxyd.specs.declared.fault.Fault.TheVariants.{Arguments, Usage, Address, ProxyOption, File, Config, MapOption, Socket, OutOfMemory, BadEvent, OutOfMemoryAt}

-- the exit status: 2 if the program was given input that it can't use, 1 if something kept it from
-- its work
abbrev pub status_of : Fault → ℕ
status_of Arguments = 2
status_of (Usage status text) = status
status_of Address = 2
status_of ProxyOption = 2
status_of File = 1
status_of (Config e) = 2
status_of MapOption = 2
status_of Socket = 1
status_of OutOfMemory = 1
status_of (BadEvent line) = 2
status_of (OutOfMemoryAt line) = 1

-- the text of a fault
abbrev pub fault_text : Fault → List ℕ
fault_text Arguments = codes "coap-proxyd: arguments"
fault_text (Usage status text) = string_bytes text
fault_text Address = codes "coap-proxyd: address"
fault_text ProxyOption = codes "coap-proxyd: proxy option"
fault_text File = codes "coap-proxyd: file"
fault_text (Config e) = codes "coap-proxyd: config: " ++ config_text.fault_text e
fault_text MapOption = codes "coap-proxyd: map option"
fault_text Socket = codes "coap-proxyd: socket"
fault_text OutOfMemory = codes "coap-proxyd: out of memory"
fault_text (BadEvent line) = codes "line " ++ decimal line ++ codes ": bad event"
fault_text (OutOfMemoryAt line) = codes "line " ++ decimal line ++ codes ": out of memory"

-- ---- the fault of each part

abbrev pub words_fault : WordsError → Fault
words_fault (words.Usage status text) = Usage status text
words_fault words.OutOfMemory = OutOfMemory

abbrev pub address_fault : UriError → Fault
address_fault uri.OutOfMemory = OutOfMemory
address_fault _ = Address

abbrev pub names_fault : ProxyOptionError → Fault
names_fault proxy.OutOfMemory = OutOfMemory
names_fault _ = ProxyOption

abbrev pub config_fault : ConfigError → Fault
config_fault config.OutOfMemory = OutOfMemory
config_fault e = Config e

abbrev pub map_fault : MapOptionError → Fault
map_fault map.NoEquals = MapOption
map_fault map.OutOfMemory = OutOfMemory

-- the fault of a replay that stopped
abbrev pub replay_fault : ReplayError → Fault
replay_fault (errors.BadEvent line) = BadEvent line
replay_fault (errors.OutOfMemory line) = OutOfMemoryAt line
replay_fault errors.Read = File
replay_fault errors.Write = File

-- the fault of a loop over a port that stopped
abbrev pub drive_fault : DriveError → Fault
drive_fault (drive.Port stats) = Socket
drive_fault drive.OutOfMemory = OutOfMemory
