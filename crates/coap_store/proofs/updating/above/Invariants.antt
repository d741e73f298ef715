use Rattle.std.proofs.Common.{◌≡◌, length}
use Rattle.coap_message.specs.Options.{AreOptions}
use Rattle.coap_store.specs.Renewing.{above}
use Rattle.coap_store.proofs.updating.above.Given as goal

abbrev pub invariant-same : goal.invariant-same
invariant-same l = record {
  in_order : AreOptions l.number l.left;
  rest : above l.number l.left ≡ above l.number l.initial.left;
}

abbrev pub decreases-same : goal.decreases-same
decreases-same l = length l.left
