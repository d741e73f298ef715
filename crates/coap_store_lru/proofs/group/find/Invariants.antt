use Rattle.std.proofs.Common.{◌≡◌}
use Rattle.std.specs.HashSet.{contains}
use Rattle.std.specs.List.{list_any}
use Rattle.coap_store.specs.Digested.{digested, same_digested}
use Rattle.coap_store_lru.proofs.group.find.Given as goal

-- the key isn't among those that were passed
abbrev pub invariant-loop-own : goal.invariant-loop-own
invariant-loop-own g l = list_any (same_digested (digested l.secret l.key)) l.own-iterator ≡ contains same_digested l.keys (digested l.secret l.key)
