-- What the words of the command line mean, by what `clap` finds in them.
use Rattle.std.specs.Prelude.{◌≡◌, ◌⊎◌, ◌≤◌, ◌&&◌, nat_le, if◌then◌else◌, ℕ, Bool, false, List, [], codes, bytes_eq, Option, Some, None, IfSome, option_map, Result, MatchResult, string_bytes}
use Rattle.std.specs.Option.{SomeIff, option_map_or}
use Rattle.std.specs.Str.Parse.{IsNumeral, digits_value, without_leading_plus}
use Rattle.clap.specs.Words.{IsAmong, Kinds, Row, Text, fault_of, first_of, matches_of, one_of}
use Rattle.clap.specs.declared.error.ErrorKind.{ErrorKind}
use Rattle.clap.specs.declared.error.ErrorKind.TheVariants as kind
use Rattle.coap_config.specs.OptionTable.{greatest, largest_buffer, longest_period, option_table}
use Rattle.coap_config.specs.declared.settings.Settings.{Settings}
use Rattle.coap_config.specs.declared.settings.WordsError.{WordsError}
use Rattle.coap_config.specs.declared.settings.WordsError.TheVariants.{Usage, OutOfMemory}

-- the number from `least` to `most` that a text gives in decimal digits, perhaps after a plus, if
-- it gives one
abbrev pub SaysNumber : ℕ → ℕ → Text → Option ℕ → Type 0
SaysNumber least most text number =
    let digits = without_leading_plus text in
    SomeIff number
    (IsNumeral 10 digits × (least ≤ digits_value 10 digits) × (digits_value 10 digits ≤ most))
    (digits_value 10 digits)

-- the number that an option's text gives; none without a text
abbrev pub IsNumberOf : ℕ → ℕ → Option Text → Option ℕ → Type 0
IsNumberOf least most None number = number ≡ None
IsNumberOf least most (Some text) number = SaysNumber least most text number

-- a number, if it is in a range
abbrev pub narrowed : ℕ → ℕ → Option ℕ → Option ℕ
narrowed least most None = None
narrowed least most (Some n) = if nat_le least n && nat_le n most then Some n else None

-- an option without a value is given
abbrev pub is_given : Text → List Row → Bool
is_given id rows = option_map_or (λ text. bytes_eq text (codes "true")) (first_of id rows) false

-- each setting is what its option gives
pub record AreSettings (rows : List Row) (s : Settings) : Type 0 where
  pub address : option_map string_bytes s.address ≡ first_of (codes "address") rows
  pub port : IsNumberOf 1 65535 (one_of (codes "port") rows) s.port
  pub names : option_map string_bytes s.names ≡ first_of (codes "names") rows
  pub config : option_map string_bytes s.config ≡ first_of (codes "config") rows
  pub map : option_map string_bytes s.map ≡ first_of (codes "map") rows
  pub replay : s.replay ≡ is_given (codes "replay") rows
  pub first_id : IsNumberOf 0 65535 (one_of (codes "id") rows) s.first_id
  pub salt : IsNumberOf 0 greatest (one_of (codes "salt") rows) s.salt
  pub turns : IsNumberOf 1 greatest (one_of (codes "turns") rows) s.turns
  pub recording : option_map string_bytes s.recording ≡ first_of (codes "record") rows
  pub explain : s.explain ≡ is_given (codes "explain") rows
  pub stats : IsNumberOf 1 longest_period (one_of (codes "stats") rows) s.stats
  pub stats_file : option_map string_bytes s.stats_file ≡ first_of (codes "stats-file") rows
  pub log : s.log ≡ is_given (codes "log") rows
  pub record_bytes : IsNumberOf 1 greatest (one_of (codes "record-bytes") rows) s.record_bytes
  pub receive_buffer :
      IsNumberOf 1 largest_buffer (one_of (codes "receive-buffer") rows) s.receive_buffer

-- each setting that isn't a text is what its option gives
pub record AreNumbers (rows : List Row) (s : Settings) : Type 0 where
  pub port : IsNumberOf 1 65535 (one_of (codes "port") rows) s.port
  pub replay : s.replay ≡ is_given (codes "replay") rows
  pub first_id : IsNumberOf 0 65535 (one_of (codes "id") rows) s.first_id
  pub salt : IsNumberOf 0 greatest (one_of (codes "salt") rows) s.salt
  pub turns : IsNumberOf 1 greatest (one_of (codes "turns") rows) s.turns
  pub explain : s.explain ≡ is_given (codes "explain") rows
  pub stats : IsNumberOf 1 longest_period (one_of (codes "stats") rows) s.stats
  pub log : s.log ≡ is_given (codes "log") rows
  pub record_bytes : IsNumberOf 1 greatest (one_of (codes "record-bytes") rows) s.record_bytes
  pub receive_buffer :
      IsNumberOf 1 largest_buffer (one_of (codes "receive-buffer") rows) s.receive_buffer

-- the numbers are in their ranges
pub record AreInRange (s : Settings) : Type 0 where
  pub port : IfSome s.port (λ n. (1 ≤ n) × (n ≤ 65535))
  pub salt : IfSome s.salt (λ n. n ≤ greatest)
  pub turns : IfSome s.turns (λ n. (1 ≤ n) × (n ≤ greatest))
  pub stats : IfSome s.stats (λ n. (1 ≤ n) × (n ≤ longest_period))
  pub record_bytes : IfSome s.record_bytes (λ n. (1 ≤ n) × (n ≤ greatest))
  pub receive_buffer : IfSome s.receive_buffer (λ n. (1 ≤ n) × (n ≤ largest_buffer))

-- the help and the version end the program with 0, a refusal with 2
abbrev pub status_of : ErrorKind → ℕ
status_of kind.DisplayHelp = 0
status_of kind.DisplayVersion = 0
status_of _ = 2

-- a refusal of this kind, with whatever text
abbrev pub IsRefusal : ErrorKind → WordsError → Type 0
IsRefusal k (Usage status text) = status ≡ status_of k
IsRefusal k OutOfMemory = ⊥

-- memory ran out, or it is a refusal of one of these kinds
abbrev pub RefusesFor : Kinds → WordsError → Type 0
RefusesFor kinds e = (e ≡ OutOfMemory) ⊎ ((k : ErrorKind) × IsAmong k kinds × IsRefusal k e)

-- The words are accepted only if `clap` finds no fault in them by the option table, and then the
-- settings are what it finds. Otherwise they are refused for a fault that it finds, or memory ran
-- out.
abbrev pub ReadsWords : List Text → Result Settings WordsError → Type 0
ReadsWords words result =
    MatchResult result
    (λ s. (fault_of option_table words ≡ []) × AreSettings (matches_of option_table words) s)
    (RefusesFor (fault_of option_table words))
