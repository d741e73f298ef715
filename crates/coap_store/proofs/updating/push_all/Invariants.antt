use Rattle.std.proofs.Common.{◌≡◌, ◌++◌}
use Rattle.coap_message.specs.Options.{AreOptions, last_number}
use Rattle.coap_store.proofs.updating.push_all.Given as goal

abbrev pub invariant-loop-option : goal.invariant-loop-option
invariant-loop-option l = record {
  in_order : AreOptions (last_number 0 l.list) l.option-iterator;
  pushed : l.list ++ l.option-iterator ≡ l.initial.list ++ l.fn.left;
}
