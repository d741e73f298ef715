use Rattle.std.proofs.Common.{◌≡◌, ◌++◌, ◌≤◌, length}
use Rattle.coap_message.specs.Options.{AreOptions, last_number}
use Rattle.coap_message.specs.Spelling.{options_spelling}
use Rattle.coap_store.specs.Writing.{side_of}
use Rattle.coap_store.proofs.show.put_side.Given as goal

abbrev pub invariant-loop-option : goal.invariant-loop-option
invariant-loop-option l = record {
  room : l.out.room ≡ l.fn.out.room;
  longer : length l.fn.out.bytes ≤ length l.out.bytes;
  within : length l.out.bytes ≤ l.room;
  in_order : AreOptions l.last (side_of l.side l.option-iterator);
  written : l.out.bytes ++ options_spelling l.last (side_of l.side l.option-iterator) ≡ l.fn.out.bytes ++ options_spelling l.before (side_of l.side l.options);
  behind : last_number l.last (side_of l.side l.option-iterator) ≡ last_number l.before (side_of l.side l.options);
}
