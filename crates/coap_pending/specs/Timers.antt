-- Timers of messages that are retransmitted until they are acknowledged (RFC 7252, 4.2 and 4.8).
-- Moments are in milliseconds.
use Rattle.std.specs.Prelude.{◌≡◌, ℕ, ◌+◌, ◌-◌, ◌*◌, ◌^◌, ◌<◌, ◌≤◌, ◌&&◌, min, Bool, nat_lt, if◌then◌else◌, List, [], ◌∷◌, length}
use Rattle.coap_pending.specs.declared.timer.Fire.{Fire}
use Rattle.coap_pending.specs.declared.timer.Fire.TheVariants.{Again, GiveUp}
use Rattle.coap_pending.specs.declared.timer.Timer.{Timer}

-- the message is sent for the first time, now
abbrev pub started : ℕ → ℕ → Timer
started now draw =
    record { started = now; timeout = 2000 + draw; due = now + (2000 + draw); transmissions = 1 }

-- it is to be sent once more: it was sent fewer than five times, and less than 93,000 ms have
-- passed
abbrev pub goes_on : ℕ → Timer → Bool
goes_on now t = nat_lt t.transmissions 5 && nat_lt (now - t.started) 93000

abbrev pub fire_of : ℕ → Timer → Fire
fire_of now t = if goes_on now t then Again else GiveUp

-- it is sent once more, and the timeout doubles
abbrev pub sent_again : ℕ → Timer → Timer
sent_again now t =
    record {
      started = t.started;
      timeout = t.timeout * 2;
      due = now + t.timeout * 2;
      transmissions = t.transmissions + 1;
    }

-- the timer after it has fired
abbrev pub fired : ℕ → Timer → Timer
fired now t = if goes_on now t then sent_again now t else t

-- ---- bounds on timeouts

-- the current timeout is at most 3,000 ms doubled with each sending
abbrev pub IsShort : Timer → Type 0
IsShort t = t.timeout ≤ 3000 * 2 ^ min t.transmissions 5

-- ---- the schedule

-- the timer of a message that was sent at these moments, latest first: it was started with this
-- draw, and fired each time it was due
abbrev pub IsTimerOf : ℕ → List ℕ → Timer → Type 0
IsTimerOf draw [] t = ⊥
IsTimerOf draw (now ∷ []) t = t ≡ started now draw
IsTimerOf draw (now ∷ before ∷ moments) t =
    (u : Timer)
    × IsTimerOf draw (before ∷ moments) u
    × (u.due ≤ now)
    × (fire_of now u ≡ Again)
    × (t ≡ fired now u)

-- the moment of the first sending
abbrev pub oldest : ℕ → List ℕ → ℕ
oldest now [] = now
oldest now (before ∷ moments) = oldest before moments

-- at least the timeout passes between one sending and the next, and it doubles each time; each
-- retransmission is less than 93,000 ms after the first sending
abbrev pub AreSpaced : ℕ → List ℕ → Type 0
AreSpaced draw [] = Unit {0}
AreSpaced draw (now ∷ []) = Unit {0}
AreSpaced draw (now ∷ before ∷ moments) =
    (before + (2000 + draw) * 2 ^ length moments ≤ now)
    × (now < oldest before moments + 93000)
    × AreSpaced draw (before ∷ moments)

-- the schedule of a message's sendings, latest first (RFC 7252, 4.2)
pub record IsSchedule (draw : ℕ) (moments : List ℕ) : Type 0 where
  pub few : length moments ≤ 5
  pub spaced : AreSpaced draw moments
