use Rattle.std.proofs.Common.{◌≡◌}
use Rattle.std.specs.List.{list_any}
use Rattle.coap_endpoint.specs.Equality.{same_bytes}
use Rattle.coap_store.proofs.tag.is_among.Given as goal

abbrev pub invariant-loop-other : goal.invariant-loop-other
invariant-loop-other l = list_any (same_bytes l.tag) l.tags ≡ list_any (same_bytes l.tag) l.other-iterator
