use Rattle.std.proofs.Common.{◌≡◌}
use Rattle.coap_target.specs.Routes.{begins, path_of}
use Rattle.coap_counts.specs.Search.{segments}
use Rattle.coap_counts.proofs.search.begins.Given as goal

-- those that are left of the path have still to begin with those that are left of the prefix
abbrev pub invariant-loop-segment : goal.invariant-loop-segment
invariant-loop-segment l = begins l.prefix (path_of l.request) ≡ begins l.segment-iterator (segments l.left)
