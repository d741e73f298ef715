use Rattle.std.proofs.Common.{◌≡◌, not}
use Rattle.toml.specs.View.{members_view}
use Rattle.coap_config.specs.Config.{is_known}
use Rattle.coap_config.specs.Tree.{first_key}
use Rattle.coap_config.proofs.tables.first_unknown.Given as goal

abbrev pub invariant-loop-key : goal.invariant-loop-key
invariant-loop-key l =
    first_key (λ key. not (is_known l.place key)) (members_view l.table.entries)
    ≡ first_key (λ key. not (is_known l.place key)) (members_view l.key-iterator)
