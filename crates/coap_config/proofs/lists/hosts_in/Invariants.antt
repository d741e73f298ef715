use Rattle.std.proofs.Common.{◌≡◌}
use Rattle.toml.specs.View.{members_view}
use Rattle.coap_config.specs.Config.{host_said}
use Rattle.coap_config.specs.ConfigView.{pairs_of}
use Rattle.coap_config.specs.Tree.{each_member, with_front}
use Rattle.coap_config.proofs.lists.hosts_in.Given as goal

abbrev pub invariant-loop-name : goal.invariant-loop-name
invariant-loop-name l =
    each_member host_said (members_view l.table.entries)
    ≡ with_front (pairs_of l.hosts) (each_member host_said (members_view l.name-iterator))
