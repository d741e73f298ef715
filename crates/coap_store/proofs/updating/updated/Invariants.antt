use Rattle.std.proofs.Common.{◌≡◌, ◌++◌}
use Rattle.coap_message.specs.Options.{AreOptions, last_number}
use Rattle.coap_store.specs.Renewing.{updated}
use Rattle.coap_store.proofs.updating.updated.Given as goal

abbrev pub invariant-loop-option : goal.invariant-loop-option
invariant-loop-option l = record {
  newer_in_order : AreOptions (last_number 0 l.list) l.option-iterator;
  older_in_order : AreOptions (last_number 0 l.list) l.left;
  updated_so_far : updated l.newer l.older ≡ l.list ++ updated l.option-iterator l.left;
}
