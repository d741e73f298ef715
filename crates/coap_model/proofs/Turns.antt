-- What is known of an exchange whose turn it is.
use Rattle.std.proofs.Common.{◌≡◌, ℕ, ◌<◌, ◌≤◌, min, Bool, true, false, cond, List, Option, Some, refl, sym, ap, ◌∙◌, subst, arith, ⊎_elim}
use Rattle.std.proofs.lemmas.Bool.{leb-false}
use Rattle.std.proofs.lemmas.Option.{same_Some}
use Rattle.coap_pending.specs.declared.exchange.Exchange.{Exchange}
use Rattle.coap_pending.specs.declared.exchange.ExchangeState.{ExchangeState}
use Rattle.coap_pending.specs.declared.exchange.ExchangeState.TheVariants.{Queued, Sent}
use Rattle.coap_pending.specs.declared.exchange.Sending.{Sending}
use Rattle.coap_pending.specs.Exchanges.{is_sent_to, deadline, timer_or, due_in, is_blocked}
use Rattle.coap_pending.specs.Table.{count}
use Rattle.coap_model.specs.declared.due.DueItem.TheVariants.{OfExchange}
use Rattle.coap_model.specs.State.{State}
use Rattle.coap_model.specs.Standing.{sent, stage_of}
use Rattle.coap_model.specs.Carries.{stage_at, IsExchangeOf, Bears}
use Rattle.coap_model.specs.Due.{IsToSend}
use Rattle.coap_model.specs.Justified.{InTime}
use Rattle.coap_model.specs.History.{Action, Position}
use Rattle.coap_model.proofs.DueByHistory.{due_of, min-cases, stage-is, turn-is, exchange-turn}
use Rattle.coap_model.proofs.Lists.{Has, Has-all}
use Rattle.coap_model.proofs.FirstDue.{first_due-holds}
use Rattle.coap_model.proofs.Positions.{one-opened}
use Rattle.coap_model.proofs.CountsAndRoom.{sent-count}
use Rattle.coap_model.proofs.Rules.{IsTurnOf}
use Rattle.coap_model.proofs.Tables.{item-Has, item-holds, one-item}

module _ (w : State) (history : List Action) (c : Bears history w) (now at number : ℕ) (x : Exchange) (turn : IsTurnOf w now at number x) where
  -- the exchange is in the table
  pub turn-there : Has (number, x) w.exchanges
  turn-there = item-Has number w.exchanges x turn.found

  abbrev pub turn-exchange : IsExchangeOf w.setting history (number, x)
  turn-exchange = item-holds (IsExchangeOf w.setting history) number w.exchanges x c.exchanges turn.found

  -- it is due from a moment on that has come
  pub turn-due : (due_of w x ≡ Some at) × (at ≤ now)
  turn-due =
      let first = turn-is w history c now (OfExchange at number) turn.due in
      let d = first_due-holds (λ y. Has y w.exchanges) (due_of w) w.exchanges (at, number) (Has-all w.exchanges) (exchange-turn w history c at number first.0) in
      (subst (λ (a : Exchange). due_of w a ≡ Some at) (one-item 0 w.exchanges d.0 (number, x) c.whole.rising d.1 turn-there d.2) d.3, first.1)

  -- its deadline hasn't come
  pub turn-in_time : now < deadline w.setting.limits.exchange_ms x → InTime w.setting history number now
  turn-in_time early m end =
      let f = turn-exchange in
      let position = (one-opened refl f.opened end.opened).0 in
      let moment : x.admitted ≡ end.opened.opening.action.observation.now = f.admitted ∙ ap (λ (p : Position). p.action.observation.now) position in
      let is = end.at_is in
      omega (arith, early, moment, is)

  module _ (is : x.state ≡ Queued) (early : now < deadline w.setting.limits.exchange_ms x) where
    -- one that is due to be sent isn't blocked
    pub turn-free : (is_blocked w.setting.limits.nstart w.exchanges x ≡ false) × (x.admitted ≡ at)
    turn-free = go (is_blocked w.setting.limits.nstart w.exchanges x) refl (sym (ap (λ (s : ExchangeState). due_in s (is_blocked w.setting.limits.nstart w.exchanges x) w.setting.limits.exchange_ms x) is) ∙ turn-due.0)
      where
        go : (b : Bool) → is_blocked w.setting.limits.nstart w.exchanges x ≡ b → Some (cond b (deadline w.setting.limits.exchange_ms x) x.admitted) ≡ Some at → (is_blocked w.setting.limits.nstart w.exchanges x ≡ false) × (x.admitted ≡ at)
        go true t e = absurd (let come = turn-due.1 in let late = same_Some (deadline w.setting.limits.exchange_ms x) at e in omega (arith, early, come, late))
        go false t e = (t, same_Some x.admitted at e)

    -- so its request may be sent
    pub turn-few : count (is_sent_to x.key.target.at) w.exchanges < w.setting.limits.nstart
    turn-few = leb-false _ _ turn-free.0

    abbrev pub turn-to_send : IsToSend w.setting history number at
    turn-to_send =
        let f = turn-exchange in
        let few = turn-few in
        let as_many = sent-count x.key.target.at history w c in
        record {
          opened = f.opened;
          key = x.key;
          verdict = f.verdict;
          stage = stage-is w history c (number, x) turn-there ∙ ap (λ (s : ExchangeState). Some (stage_at x.key.target.at s)) is;
          free = omega (arith, few, as_many);
          at_is = sym turn-free.1 ∙ f.admitted;
        }

  module _ (is : x.state ≡ Sent) (s : Sending) (sending : x.sending ≡ Some s) where
    -- when one that was sent is due
    lesser : min s.timer.due (deadline w.setting.limits.exchange_ms x) ≡ at
    lesser = same_Some _ at (ap (λ (o : Option Sending). Some (timer_or (deadline w.setting.limits.exchange_ms x) o)) (sym sending) ∙ ap (λ (t : ExchangeState). due_in t (is_blocked w.setting.limits.nstart w.exchanges x) w.setting.limits.exchange_ms x) (sym is) ∙ turn-due.0)

    -- before its deadline, it is due since the end of its timeout
    pub turn-ended : now < deadline w.setting.limits.exchange_ms x → at ≡ s.timer.due
    turn-ended early =
        ⊎_elim
        (λ (timer : at ≡ s.timer.due). timer)
        (λ (end : at ≡ deadline w.setting.limits.exchange_ms x). absurd (let come = turn-due.1 in omega (arith, early, come, end)))
        (min-cases s.timer.due (deadline w.setting.limits.exchange_ms x) at lesser)

    pub turn-stage : stage_of number history ≡ Some (sent x.key.target.at)
    turn-stage = stage-is w history c (number, x) turn-there ∙ ap (λ (s : ExchangeState). Some (stage_at x.key.target.at s)) is
