-- A tick with nothing to do preserves what is carried: nothing was due. And nothing is due that
-- isn't in the tables.
use Rattle.std.proofs.Common.{◌≡◌, ℕ, ◌≤◌, List, ◌∷◌, Some, None, refl, sym, ap, ◌∙◌, subst, arith}
use Rattle.std.proofs.lemmas.Option.{same_Some}
use Rattle.coap_pending.specs.declared.exchange.ExchangeState.{ExchangeState}
use Rattle.coap_pending.specs.declared.waiter.Waiter.{Waiter}
use Rattle.coap_pending.specs.declared.waiter.WaiterState.{WaiterState}
use Rattle.coap_pending.specs.Exchanges.{deadline, due_in, is_blocked}
use Rattle.coap_pending.specs.Table.{Numbered}
use Rattle.coap_pending.specs.Waiters as waiters
use Rattle.coap_pending.specs.Waiters.{moment_of, due_after}
use Rattle.coap_model.specs.declared.due.DueItem.TheVariants.{OfExchange, OfWaiter}
use Rattle.coap_model.specs.Events.{tick}
use Rattle.coap_model.specs.State.{State}
use Rattle.coap_model.specs.Ticks.{item_due, if_due, idles}
use Rattle.coap_model.specs.History.{no_item, Action}
use Rattle.coap_model.specs.Runs.{observation_of}
use Rattle.coap_model.specs.Carries.{HasNumber, Bears}
use Rattle.coap_model.proofs.DueByHistory.{due_of, idling-due, turn-is, exchange-turn, waiter-turn}
use Rattle.coap_model.proofs.FirstDue.{first_due-holds}
use Rattle.coap_model.proofs.Lists.{Has, Has-all}
use Rattle.coap_model.proofs.Positions.{doing}
use Rattle.coap_model.proofs.CaseQuiet.{keeps_quiet}
use Rattle.coap_model.proofs.Rules.{IsStuck, no_exchange, acknowledged, answered, no_waiter, unanswered}
use Rattle.coap_model.proofs.Tables.{Has-number, item-Has, item-none, one-item}
use Rattle.coap_model.proofs.Turns.{turn-due}

-- an idle tick preserves what is carried
pub keeps_idling : (w : State) (history : List Action) (c : Bears history w) (now draw : ℕ) → w.last ≤ now → if_due now (item_due w) ≡ None → Bears (doing no_item (observation_of now draw tick (idles w now)) ∷ history) (idles w now).state
keeps_idling w history c now draw onward nothing =
    let e = doing no_item (observation_of now draw tick (idles w now)) in
    keeps_quiet w history c e (record { act = refl; opens = refl; admits = refl; sends = refl; accepts_answer = refl; leaves_open = λ standing xs. refl; stands = λ standing. refl }) refl (λ k. refl) onward refl
    (record { act = refl; ticked = refl; nothing = idling-due w history c now nothing; silent = record { sent = refl; bytes = refl } }, c.past)

-- the waiter that is due first exists, and is due from its moment on
pub waiter-there : (w : State) (history : List Action) → Bears history w → (now at number : ℕ) → if_due now (item_due w) ≡ Some (OfWaiter at number) → (u : Numbered Waiter) × Has u w.waiters × (u.0 ≡ number) × (due_after w.exchanges u.1 ≡ Some at)
waiter-there w history c now at number due = first_due-holds (λ u. Has u w.waiters) (due_after w.exchanges) w.waiters (at, number) (Has-all w.waiters) (waiter-turn w history c at number (turn-is w history c now (OfWaiter at number) due).0)

-- the cases that never occur
pub not-stuck : {A : Type 0} (w : State) (history : List Action) → Bears history w → (now : ℕ) → IsStuck w now → A
not-stuck w history c now (no_exchange at number due none) =
    let d = first_due-holds (λ y. Has y w.exchanges) (due_of w) w.exchanges (at, number) (Has-all w.exchanges) (exchange-turn w history c at number (turn-is w history c now (OfExchange at number) due).0) in
    absurd (item-none number w.exchanges none (subst (λ (n : ℕ). HasNumber n w.exchanges) d.2 (Has-number w.exchanges d.0 d.1)))
not-stuck w history c now (acknowledged at number x turn is early) =
    absurd (
    let due = turn-due w history c now at number x turn in
    let late = same_Some (deadline w.setting.limits.exchange_ms x) at (sym (ap (λ (s : ExchangeState). due_in s (is_blocked w.setting.limits.nstart w.exchanges x) w.setting.limits.exchange_ms x) is) ∙ due.0) in
    let come = due.1 in
    omega (arith, early, late, come)
    )
not-stuck w history c now (answered at number x a turn is) =
    absurd (let due = (turn-due w history c now at number x turn).0 in let e = sym (ap (λ (s : ExchangeState). due_in s (is_blocked w.setting.limits.nstart w.exchanges x) w.setting.limits.exchange_ms x) is) ∙ due in cc)
not-stuck w history c now (no_waiter at number due none) =
    let d = waiter-there w history c now at number due in
    absurd (item-none number w.waiters none (subst (λ (n : ℕ). HasNumber n w.waiters) d.2 (Has-number w.waiters d.0 d.1)))
not-stuck w history c now (unanswered at number exchange v due found waits none) =
    let d = waiter-there w history c now at number due in
    let here : due_after w.exchanges v ≡ Some at = subst (λ (u : Waiter). due_after w.exchanges u ≡ Some at) (one-item 0 w.waiters d.0 (number, v) c.whole.waiters_rise d.1 (item-Has number w.waiters v found) d.2) d.3 in
    absurd (let e = sym (ap (λ (s : WaiterState). waiters.due_in s w.exchanges) waits ∙ ap moment_of none) ∙ here in cc)
