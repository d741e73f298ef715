use Rattle.std.proofs.Common.{◌≡◌, ◌++◌, length}
use Rattle.coap_message.specs.Options.{AreOptions, last_number}
use Rattle.coap_store.specs.Renewing.{below, from}
use Rattle.coap_store.proofs.updating.push_below.Given as goal

abbrev pub invariant-below : goal.invariant-below
invariant-below l = record {
  in_order : AreOptions (last_number 0 l.list) l.left;
  pushed : l.list ++ below l.number l.left ≡ l.initial.list ++ below l.number l.initial.left;
  rest : from l.number l.left ≡ from l.number l.initial.left;
}

abbrev pub decreases-below : goal.decreases-below
decreases-below l = length l.left
