use Rattle.std.proofs.Common.{◌≡◌, drop, map}
use Rattle.clap.specs.Words.{app_of}
use Rattle.coap_config.specs.OptionTable.{option, option_table}
use Rattle.coap_config.proofs.OptionRows.{with_rules}
use Rattle.coap_config.proofs.options.command.Given as goal

abbrev pub invariant-loop-row : goal.invariant-loop-row
invariant-loop-row l = with_rules (app_of l.command) (map option (drop l.row-index l.row-items)) ≡ option_table
