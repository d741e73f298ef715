-- What a watcher is told.
use Rattle.std.specs.Prelude.{ℕ, Bool, List, Option, option_map}
use Rattle.coap_core.specs.Events.{seen}
use Rattle.coap_model.specs.Runs.{Turn}
use Rattle.coap_model.specs.State.{State}
use Rattle.coap_model.specs.Deeds.{report_of}
use Rattle.coap_model.specs.declared.report.Report.{Report}
use Rattle.coap_model.specs.declared.deed.Deed.{Deed}
use Rattle.coap_model.specs.declared.deed.Did.{Did}
use Rattle.coap_core.specs.declared.watch.WatchedTurn.{WatchedTurn}

-- A turn; what its step did, or none if memory ran out for it; what was sent, and whether that was
-- taken, which it is too if nothing was sent; and the proxy after the turn.
pub record Told : Type 0 where
  pub turn : Turn
  pub did : Option Did
  pub bytes : List ℕ
  pub went : Bool
  pub state : State

-- what a program tells of a turn, with this proxy after it
abbrev pub told : WatchedTurn → State → Told
told s w = record {
  turn = record { now = s.now; draw = s.draw; event = seen s.event };
  did = s.did;
  bytes = s.sent.now;
  went = s.went;
  state = w;
}

-- what was done in short, and without the destination of its datagram
abbrev pub report_told : Told → Option Report
report_told t = option_map report_of t.did

abbrev pub deed_told : Told → Option Deed
deed_told t = option_map (λ (did : Did). did.deed) t.did
