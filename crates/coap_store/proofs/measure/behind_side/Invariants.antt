use Rattle.std.proofs.Common.{◌≡◌, ◌+◌}
use Rattle.coap_message.specs.Options.{AreOptions, last_number}
use Rattle.coap_message.specs.Spelling.{options_length}
use Rattle.coap_store.specs.Writing.{side_of}
use Rattle.coap_store.proofs.measure.behind_side.Given as goal

abbrev pub invariant-loop-option : goal.invariant-loop-option
invariant-loop-option l = record {
  in_order : AreOptions l.last (side_of l.side l.option-iterator);
  taken : l.behind + options_length l.before (side_of l.side l.options) ≡ l.room + options_length l.last (side_of l.side l.option-iterator);
  until : last_number l.last (side_of l.side l.option-iterator) ≡ last_number l.before (side_of l.side l.options);
}
