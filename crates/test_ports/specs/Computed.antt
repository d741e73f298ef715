-- Turns and counts of the examples.
use Rattle.std.specs.Prelude.{ℕ, Bool, false, true}
use Rattle.coap_model.specs.Events.Event.{tick}
use Rattle.coap_port.specs.Driven.{Given}
use Rattle.coap_port.specs.declared.stats.Stats.{Stats}

-- a tick, which was lost or not
abbrev pub tick_given : Bool → Given
tick_given lost = record {
  wait = 1000;
  turn = record { now = 5; draw = 0; event = tick };
  lost = lost;
  grown = false;
  went = true;
}

-- its step ran out of memory
abbrev pub was_lost : Given → Bool
was_lost g = g.lost

-- the counts for this many turns, datagrams that were taken, datagrams that weren't, and lost turns
abbrev pub counts : ℕ → ℕ → ℕ → ℕ → Stats
counts turns sent send_faults lost =
    record { turns = turns; sent = sent; send_faults = send_faults; lost = lost }
