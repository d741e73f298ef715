-- What is counted of the turns of a port.
use Rattle.std.specs.Prelude.{◌≤◌, ℕ, ◌+◌, ◌&&◌, Bool, true, false, not}
use Rattle.coap_port.specs.declared.stats.Stats.{Stats}

abbrev pub no_stats : Stats
no_stats = record { turns = 0; sent = 0; send_faults = 0; lost = 0 }

-- one more, if this is true
abbrev pub more : Bool → ℕ → ℕ
more true n = n + 1
more false n = n

-- the counts with one more turn: whether it was lost, whether a datagram was handed over, and
-- whether that was taken
abbrev pub with_turn : Bool → Bool → Bool → Stats → Stats
with_turn lost sent went s = record {
  turns = s.turns + 1;
  sent = more (sent && went) s.sent;
  send_faults = more (sent && not went) s.send_faults;
  lost = more lost s.lost;
}

-- no count is greater than the number of turns
pub record AreWithin (s : Stats) : Type 0 where
  pub sent : s.sent ≤ s.turns
  pub send_faults : s.send_faults ≤ s.turns
  pub lost : s.lost ≤ s.turns
