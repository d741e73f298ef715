-- What is due next isn't far ahead, if moments and draws are within their ranges.
use Rattle.std.proofs.Common.{◌≡◌, ⊎_elim, ℕ, zero, suc, ◌+◌, ◌^◌, ◌≤◌, Bool, true, false, cond, List, [], ◌∷◌, length, Some, ap, subst, sym, arith}
use Rattle.std.specs.Prelude.{filter}
use Rattle.std.proofs.lemmas.Nat.{mul-le}
use Rattle.coap_limits.specs.Limits.{AreLimits}
use Rattle.coap_limits.specs.declared.limits.Limit.TheVariants.{ExchangeMs}
use Rattle.coap_model.specs.Setting.{Setting}
use Rattle.coap_model.specs.State.{State}
use Rattle.coap_model.specs.History.{Observation, Act, no_item, admits, moves, serves, Action, told_by, Position, IsPositionOf}
use Rattle.coap_model.specs.Schedules.{next_send, oldest, sends_by, sends_for}
use Rattle.coap_model.specs.Due.{IsDueAt, to_send, to_repeat, to_end, to_serve, to_serve_again}
use Rattle.coap_model.specs.Carries.{AreSchedules, Carries}
use Rattle.coap_model.specs.Ranges.{AreInRange, IsInRange}
use Rattle.coap_model.specs.Ticks.{next_due}
use Rattle.coap_model.proofs.DueByHistory.{next-is}

-- the moment of each position is within the range
at-position : (actions : List Action) (p : Position) → AreInRange (told_by actions) → IsPositionOf actions p → p.action.observation.now ≤ 2 ^ 62
at-position [] p r at = absurd at
at-position (d ∷ past) p r at =
    ⊎_elim
    (λ (same : record { before = past; action = d } ≡ p). let now = ap (λ (q : Position). q.action.observation.now) same in omega (arith, now, r.0.0))
    (λ (there : IsPositionOf past p). at-position past p r.1 there)
    at

-- the transmissions for an act are within the ranges
sends-in : (act : Act) (actions : List Action) → AreInRange (told_by actions) → AreInRange (sends_by act actions)
sends-in act [] r = tt
sends-in act (d ∷ actions) r = go (sends_for act d) (sends-in act actions r.1)
  where
    go : (b : Bool) → AreInRange (sends_by act actions) → AreInRange (told_by (cond b (d ∷ filter (sends_for act) actions) (filter (sends_for act) actions)))
    go true rest = (r.0, rest)
    go false rest = rest

-- so is the draw of the first transmission
oldest-in : (e : Observation) (es : List Observation) → IsInRange e → AreInRange es → (oldest e es).draw ≤ 1000
oldest-in e [] i r = i.1
oldest-in e (before ∷ es) i r = oldest-in before es r.0 r.1

-- the timeout doubles at most four times
doubled : (n : ℕ) → n ≤ 4 → 2 ^ n ≤ 16
doubled zero le = omega arith
doubled (suc zero) le = omega arith
doubled (suc (suc zero)) le = omega arith
doubled (suc (suc (suc zero))) le = omega arith
doubled (suc (suc (suc (suc zero)))) le = omega arith
doubled (suc (suc (suc (suc (suc n))))) le = absurd (omega (arith, le))

-- the next transmission is due within ten minutes after the greatest moment
next-in : (es : List Observation) → length es ≤ 5 → AreInRange es → next_send es ≤ 2 ^ 62 + 600000
next-in [] few r = omega arith
next-in (e ∷ es) few r =
    let draw = oldest-in e es r.0 r.1 in
    let times : 2 ^ length es ≤ 16 = doubled (length es) (omega (arith, few)) in
    let timeout = mul-le (2000 + (oldest e es).draw) (2 ^ length es) 3000 16 (omega (arith, draw)) times in
    omega (arith, timeout, r.0.0)

-- everything that is due is due by then
due-in : (setting : Setting) (actions : List Action) → AreSchedules actions → AreInRange (told_by actions) → setting.limits.exchange_ms ≤ 600000 → (act : Act) (at : ℕ) → IsDueAt setting actions act at → at ≤ 2 ^ 62 + 600000
due-in setting actions schedules r most no_item at due = absurd due
due-in setting actions schedules r most (admits v x) at due = absurd due
due-in setting actions schedules r most (moves x) at (to_send due) = omega (arith, due.at_is, at-position actions due.opened.opening r due.opened.was_opened)
due-in setting actions schedules r most (moves x) at (to_repeat due) = omega (arith, due.at_is, next-in (sends_by (moves x) actions) (schedules (moves x)).few (sends-in (moves x) actions r))
due-in setting actions schedules r most (moves x) at (to_end due) = omega (arith, due.at_is, most, at-position actions due.opened.opening r due.opened.was_opened)
due-in setting actions schedules r most (serves v) at (to_serve due) = omega (arith, due.at_is, at-position actions due.ending r due.was_ended)
due-in setting actions schedules r most (serves v) at (to_serve_again due) = omega (arith, due.at_is, next-in (sends_by (serves v) actions) (schedules (serves v)).few (sends-in (serves v) actions r))

-- so is the next moment at which something is due
pub next-bounded : (w : State) (history : List Observation) (at : ℕ) → Carries history w → AreInRange history → AreLimits w.setting.limits → next_due w ≡ Some at → at ≤ 2 ^ 62 + 600000
next-bounded w history at c r limits next =
    let is = next-is w c.actions c.bears at next in
    due-in w.setting c.actions c.bears.schedules (subst AreInRange (sym c.told) r) (limits ExchangeMs).1 is.act at is.due
