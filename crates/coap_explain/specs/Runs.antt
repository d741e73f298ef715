-- What an account says of a run.
use Rattle.std.specs.Prelude.{ℕ, Bool, true, false, is_some, List, [], ◌∷◌, ◌++◌, Option, None, Some, Result, Ok, Err}
use Rattle.coap_message.specs.declared.error.DecodeError.{DecodeError}
use Rattle.coap_message.specs.Message.{Message}
use Rattle.coap_message.specs.Reading.{read_message}
use Rattle.coap_pending.specs.declared.exchange.Exchange.{Exchange}
use Rattle.coap_pending.specs.Exchanges.{is_joinable}
use Rattle.coap_pending.specs.Table.{first_that}
use Rattle.coap_model.specs.Events.{Event, arrival, tick}
use Rattle.coap_model.specs.Runs.{Turn}
use Rattle.coap_model.specs.State.{State, Step}
use Rattle.coap_model.specs.Step.{step_of}
use Rattle.coap_model.specs.Verdicts.{Verdict, may_ask, refused_with, verdict_of}
use Rattle.coap_core.specs.Done.{did_of}
use Rattle.coap_core.specs.Told.{Told}
use Rattle.coap_core.specs.Watching.{due_exchange}
use Rattle.coap_explain.specs.Account.{Noted, line_of, line_text}
use Rattle.coap_explain.specs.Noted.{answering_of, due_of}
use Rattle.coap_explain.specs.Targets.{target_text}
use Rattle.coap_explain.specs.Ways.{routed_of}

-- ---- what is noted

abbrev pub target_in : Option Exchange → List ℕ
target_in None = []
target_in (Some x) = target_text x.key.target

-- a GET that asked for this could share an exchange's answer
abbrev pub joins_for : State → Verdict → Bool
joins_for w (refused_with code) = false
joins_for w (may_ask key) = is_some (first_that (is_joinable key) w.exchanges)

abbrev pub joins_read : State → Result Message DecodeError → Bool
joins_read w (Ok m) = joins_for w (verdict_of w.setting.routes m)
joins_read w (Err e) = false

abbrev pub joins_in : State → Event → Bool
joins_in w (arrival from bytes) = joins_read w (read_message bytes)
joins_in w tick = false

-- of a turn, with the proxy before and after its step
abbrev pub noted_of : State → Turn → State → Noted
noted_of before t after = record {
  due = due_of before;
  target = target_in (due_exchange before);
  answering = answering_of before t.now t.event;
  joins = joins_in after t.event;
}

-- ---- a run, where memory never runs out and the time of day isn't known

abbrev pub told_of : Turn → Step → Told
told_of t s =
    record { turn = t; did = Some (did_of s); bytes = s.bytes; went = true; state = s.state }

abbrev pub line_said : State → Turn → Step → List ℕ
line_said w t s =
    line_text
    (line_of (told_of t s) [] (routed_of w.setting.routes t.event) (noted_of w t s.state))

-- the lines of a proxy for these turns, one after the other
abbrev pub account : State → List Turn → List ℕ
account w [] = []
account w (t ∷ turns) =
    let s = step_of w t.now t.draw true t.event in
    line_said w t s ++ account s.state turns
