use Rattle.std.proofs.Common.{◌≡◌, drop}
use Rattle.toml.specs.View.{items_view}
use Rattle.coap_config.specs.Config.{map_said}
use Rattle.coap_config.specs.Tree.{each_item, with_front}
use Rattle.coap_config.specs.ConfigView.{pairs_of}
use Rattle.coap_config.proofs.lists.maps_in.Given as goal

abbrev pub invariant-loop-value : goal.invariant-loop-value
invariant-loop-value l =
    each_item map_said (items_view l.values.items)
    ≡ with_front (pairs_of l.maps) (each_item map_said (items_view (drop l.value-index l.values.items)))
