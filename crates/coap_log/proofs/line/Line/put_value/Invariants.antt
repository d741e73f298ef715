use Rattle.std.proofs.Common.{◌≡◌, ◌+◌, ◌*◌, ◌-◌, ◌≤◌, ◌++◌, length, take}
use Rattle.coap_message.specs.Datagram.{holding}
use Rattle.coap_log.specs.Values.{escaped}
use Rattle.coap_log.proofs.line.Line.put_value.Given as goal

-- those so far were added, and there is room for the others
abbrev pub invariant-loop-byte : goal.invariant-loop-byte
invariant-loop-byte l =
    record {
      added : l.self ≡ holding l.initial.self (l.initial.self.bytes ++ escaped (take l.byte-index l.bytes));
      room : length l.self.bytes + 3 * (length l.bytes - l.byte-index) ≤ l.self.room;
    }
