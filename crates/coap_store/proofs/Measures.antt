-- Messages whose length is taken off the room that there is for them.
use Rattle.std.proofs.Common.{◌≡◌, ℕ, length, Option, None, Some, sym, arith}
use Rattle.std.specs.Prelude.{nat_le, is_some}
use Rattle.std.proofs.lemmas.Bool.{le-leb, lt-leb}
use Rattle.coap_message.specs.Message.{Message}
use Rattle.coap_message.specs.Spelling.{spelling, spelling_length}
use Rattle.coap_message.proofs.Spellings.{spelling-length}
use Rattle.coap_store.specs.Measuring.{Leaves}

-- room is left where the message is no longer than that
pub left-fits : (room : ℕ) (m : Message) (left : Option ℕ) → Leaves room (spelling_length m) left → is_some left ≡ nat_le (length (spelling m)) room
left-fits room m None less = let longer = spelling-length m in sym (lt-leb _ _ (omega (arith, less, longer)))
left-fits room m (Some left) is = let same = spelling-length m in sym (le-leb _ _ (omega (arith, is, same)))
