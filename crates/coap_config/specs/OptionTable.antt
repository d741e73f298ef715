-- The options of the program, as `clap` reads them.
use Rattle.std.specs.Prelude.{ℕ, true, List, [], ◌∷◌, codes, Option, Some, None, pos}
use Rattle.clap.specs.Simple.{on_top}
use Rattle.clap.specs.Words.{App, Rule, Text, new_app, new_rule, with_rule}
use Rattle.clap.specs.declared.builder.ArgAction.TheVariants.{Set, SetTrue}
use Rattle.clap.specs.declared.builder.value_parser.ValueParser.{ValueParser}
use Rattle.clap.specs.declared.builder.value_parser.ValueParser.TheVariants.{Signed, Unsigned}
use Rattle.coap_config.specs.declared.options.Row.{Row}
use Rattle.coap_config.specs.declared.options.Value.{Value}
use Rattle.coap_config.specs.declared.options.Value.TheVariants as value

-- an option with a value, under an id and a letter or a name
abbrev pub by_letter : Text → ℕ → Rule
by_letter id letter =
    record (new_rule id) { short = Some letter; action = Some Set; value_names = 1 }

abbrev pub by_name : Text → Rule
by_name name = record (new_rule name) { long = Some name; action = Some Set; value_names = 1 }

-- an option without a value, under a name
abbrev pub flag : Text → Rule
flag name = record (new_rule name) { long = Some name; action = Some SetTrue }

-- its value must be one that a parser accepts
abbrev pub parsed_by : ValueParser → Rule → Rule
parsed_by parser rule = record rule { parser = Some parser }

abbrev pub greatest : ℕ
greatest = 9223372036854775807

abbrev pub address_rule : Rule
address_rule = by_letter (codes "address") 0x41

abbrev pub port_rule : Rule
port_rule = parsed_by (Signed (pos 1) (pos 65535)) (by_letter (codes "port") 0x70)

abbrev pub names_rule : Rule
names_rule = by_letter (codes "names") 0x50

abbrev pub config_rule : Rule
config_rule = by_name (codes "config")

abbrev pub map_rule : Rule
map_rule = by_name (codes "map")

abbrev pub replay_rule : Rule
replay_rule = flag (codes "replay")

abbrev pub id_rule : Rule
id_rule = parsed_by (Signed (pos 0) (pos 65535)) (by_name (codes "id"))

abbrev pub salt_rule : Rule
salt_rule = parsed_by (Unsigned 0 greatest) (by_name (codes "salt"))

abbrev pub turns_rule : Rule
turns_rule = parsed_by (Unsigned 1 greatest) (by_name (codes "turns"))

abbrev pub record_rule : Rule
record_rule = by_name (codes "record")

abbrev pub explain_rule : Rule
explain_rule = flag (codes "explain")

-- the longest period, in seconds: a day
abbrev pub longest_period : ℕ
longest_period = 86400

abbrev pub stats_rule : Rule
stats_rule = parsed_by (Unsigned 1 longest_period) (by_name (codes "stats"))

abbrev pub stats_file_rule : Rule
stats_file_rule = by_name (codes "stats-file")

abbrev pub log_rule : Rule
log_rule = flag (codes "log")

-- a size in bytes is from 1 on
abbrev pub record_bytes_rule : Rule
record_bytes_rule = parsed_by (Unsigned 1 greatest) (by_name (codes "record-bytes"))

-- the largest receive buffer that may be asked for: a socket counts the twofold in 31 bits
abbrev pub largest_buffer : ℕ
largest_buffer = 1073741823

abbrev pub receive_buffer_rule : Rule
receive_buffer_rule = parsed_by (Unsigned 1 largest_buffer) (by_name (codes "receive-buffer"))

-- the program without options, whose words don't begin with its name, and which has a version
abbrev pub program : App
program =
    on_top (λ s. record s { no_binary_name = true; has_version = true })
    (new_app (codes "coap-proxyd"))

-- three more options
abbrev pub with_three : App → Rule → Rule → Rule → App
with_three app a b c = with_rule (with_rule (with_rule app a) b) c

-- the options for what is seen of its work
abbrev pub with_observing : App → App
with_observing app =
    with_three
    (with_three app record_rule explain_rule stats_rule)
    stats_file_rule log_rule record_bytes_rule

abbrev pub option_table : App
option_table =
    with_rule
    (with_observing
    (with_three
    (with_three (with_three program address_rule port_rule names_rule)
    config_rule map_rule replay_rule)
    id_rule salt_rule turns_rule))
    receive_buffer_rule

-- ---- as the program lists them

-- an option by its name, or by its letter if it has one
abbrev pub named : Text → Option ℕ → Rule
named name None = record (new_rule name) { long = Some name }
named name (Some letter) = record (new_rule name) { short = Some letter }

-- what follows it
abbrev pub followed_by : Value → Rule → Rule
followed_by value.Nothing rule = record rule { action = Some SetTrue }
followed_by (value.Text name) rule = record rule { action = Some Set; value_names = 1 }
followed_by (value.Number name parser) rule =
    parsed_by parser (record rule { action = Some Set; value_names = 1 })

-- the option that a row describes
abbrev pub option : Row → Rule
option row = followed_by row.value (named row.name.now row.letter)

-- the options in their order
abbrev pub options : List Rule
options =
    address_rule ∷ port_rule ∷ names_rule
    ∷ config_rule ∷ map_rule ∷ replay_rule
    ∷ id_rule ∷ salt_rule ∷ turns_rule
    ∷ record_rule ∷ explain_rule ∷ stats_rule
    ∷ stats_file_rule ∷ log_rule ∷ record_bytes_rule
    ∷ receive_buffer_rule ∷ []
