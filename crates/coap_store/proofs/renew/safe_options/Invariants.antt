use Rattle.std.proofs.Common.{◌≡◌, ◌++◌}
use Rattle.coap_message.specs.Options.{AreOptions, last_number}
use Rattle.coap_store.specs.Renewing.{safe_options}
use Rattle.coap_store.proofs.renew.safe_options.Given as goal

abbrev pub invariant-loop-option : goal.invariant-loop-option
invariant-loop-option l = record {
  in_order : AreOptions (last_number 0 l.list) l.option-iterator;
  picked : safe_options l.options ≡ l.list ++ safe_options l.option-iterator;
}
