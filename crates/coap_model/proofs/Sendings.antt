-- Transmissions: a request was first sent where its exchange says, and its id determines the
-- exchange, as long as no id is reused.
use Rattle.std.proofs.Common.{◌≡◌, ⊎_elim, ℕ, ◌+◌, ◌-◌, ◌<◌, ◌≤◌, Bool, true, false, ltb, List, [], ◌∷◌, Option, Some, None, refl, sym, ap, ◌∙◌, subst, arith}
use Rattle.std.specs.Prelude.{◌==◌, find, option_map}
use Rattle.std.proofs.lemmas.Bool.{eqb-true, eq-eqb, ltb-true, lt-ltb, cases_lt, and_parts, and_from}
use Rattle.std.proofs.lemmas.Option.{same_Some}
use Rattle.coap_message.specs.Message.{Message}
use Rattle.coap_message.specs.Spelling.{Spells}
use Rattle.coap_message.proofs.WholeMessages.{one_message}
use Rattle.coap_endpoint.specs.declared.endpoint.Endpoint.{Endpoint}
use Rattle.coap_endpoint.specs.Endpoint.{same_endpoint}
use Rattle.coap_endpoint.proofs.Equality.{Tells-endpoint}
use Rattle.coap_endpoint.proofs.Lists.{none-found}
use Rattle.coap_forward.specs.Messages.{token_of}
use Rattle.coap_store.specs.declared.key.CacheKey.{CacheKey}
use Rattle.coap_pending.specs.declared.exchange.Exchange.{Exchange}
use Rattle.coap_pending.specs.declared.exchange.ExchangeState.{ExchangeState}
use Rattle.coap_pending.specs.declared.exchange.ExchangeState.TheVariants.{Queued, Sent, Acked, Done}
use Rattle.coap_pending.specs.declared.exchange.Sending.{Sending}
use Rattle.coap_pending.specs.declared.timer.Timer.{Timer}
use Rattle.coap_pending.specs.Exchanges.{is_meant_by, is_some_as, was_sent_as}
use Rattle.coap_pending.specs.Table.{Numbered, first_that}
use Rattle.coap_model.specs.declared.report.Outcome.{Outcome}
use Rattle.coap_model.specs.declared.report.Outcome.TheVariants.{SentRequest, Resent, Delivered}
use Rattle.coap_model.specs.Setting.{Setting}
use Rattle.coap_model.specs.State.{State}
use Rattle.coap_model.specs.History.{Observation, moves, Action, Position, IsPositionOf, Never, comes_con, ids_given, last_of, Sends, Asks}
use Rattle.coap_model.specs.Schedules.{same_act, is_sending, oldest, sends_for, sends_by}
use Rattle.coap_model.specs.Justified.{IsForwarding, IsToSendAgain, request_again, answer_again, IsDelivery, JustifiedBy, AllJustified}
use Rattle.coap_model.specs.MessageIds.{GivesId}
use Rattle.coap_model.specs.Carries.{IsTimer, WasAsked, WasSent, IsInFlight, IsState, IsExchangeOf, Bears}
use Rattle.coap_model.proofs.Frames.{same_act-self, same_act-true, sends-grow}
use Rattle.coap_model.proofs.GivenIds.{ids-differ}
use Rattle.coap_model.proofs.Lists.{Has, Has-holds, find-holds}
use Rattle.coap_model.proofs.Moments.{not-later}
use Rattle.coap_model.proofs.Once.{sent-once}
use Rattle.coap_model.proofs.Positions.{Never-at, same_moves}
use Rattle.coap_model.proofs.Stages.{stage-sent}

-- ---- the first transmission

-- an exchange whose request was never first sent never sent it
pub never-sends : (setting : Setting) (history : List Action) (x : ℕ) → AllJustified setting history → Never (Sends setting.salt x) history → sends_by (moves x) history ≡ []
never-sends setting [] x all never = refl
never-sends setting (d ∷ past) x all never = let none = not-sent (sends_for (moves x) d) refl in rw none (never-sends setting past x all.1 never.1)
  where
    forwarded : IsForwarding setting past d → d.act ≡ moves x → d.observation.report.outcome ≡ SentRequest → ⊥
    forwarded j act is =
        never.0 (record {
          act = act;
          outcome = is;
          to = j.to_send.key.target.at;
          sent = j.tells.sent;
          message = _;
          spells = j.tells.spells;
          token = ap (token_of setting.salt) (same_moves j.exchange x (sym j.act ∙ act));
        })

    repeated : {at : ℕ} → IsToSendAgain setting past d at → d.act ≡ moves x → ⊥
    repeated (request_again y is to_repeat timely) act =
        let was = stage-sent setting past y to_repeat.to all.1 to_repeat.stage in
        Never-at (Sends setting.salt x) past was.position never.1 was.is_there (subst (λ (n : ℕ). Sends setting.salt n was.position) (same_moves y x (sym is ∙ act)) was.sends)
    repeated (answer_again v is again) act = let other = sym is ∙ act in cc

    served : IsDelivery setting past d → d.act ≡ moves x → ⊥
    served j act = let other = sym j.act ∙ act in cc

    by_outcome : (o : Outcome) → d.observation.report.outcome ≡ o → JustifiedBy o setting past d → d.act ≡ moves x → is_sending o ≡ true → ⊥
    by_outcome SentRequest is j act sends = forwarded j act is
    by_outcome Resent is j act sends = repeated j.again act
    by_outcome Delivered is j act sends = served j act
    by_outcome _ is j act sends = absurd cc

    not-sent : (b : Bool) → sends_for (moves x) d ≡ b → sends_for (moves x) d ≡ false
    not-sent false e = e
    not-sent true e =
        let parts = and_parts (same_act (moves x) d.act) (is_sending d.observation.report.outcome) e in
        absurd (by_outcome d.observation.report.outcome refl all.0 (sym (same_act-true (moves x) d.act parts.0)) parts.1)

-- this observation is the oldest of them
abbrev pub IsOldest : Observation → List Observation → Type 0
IsOldest first [] = ⊥
IsOldest first (e ∷ es) = oldest e es ≡ first

-- it stays the oldest as more are sent
oldest-later : (first e : Observation) (es : List Observation) → IsOldest first es → IsOldest first (e ∷ es)
oldest-later first e [] is = absurd is
oldest-later first e (before ∷ es) is = is

-- the oldest observation that sends for an exchange is the one at the position where its request
-- was first sent
pub asking-oldest : (setting : Setting) (history : List Action) (x : ℕ) (p : Position) → AllJustified setting history → IsPositionOf history p → Asks setting.salt x p → IsOldest p.action.observation (sends_by (moves x) history)
asking-oldest setting [] x p all at asks = absurd at
asking-oldest setting (d ∷ past) x p all at asks =
    ⊎_elim
    (λ (same : record { before = past; action = d } ≡ p). let here : Asks setting.salt x (record { before = past; action = d }) = subst (Asks setting.salt x) (sym same) asks in subst (λ (q : Position). IsOldest q.action.observation (sends_by (moves x) (d ∷ past))) same (first here))
    (λ (there : IsPositionOf past p). later (sends_for (moves x) d) refl (asking-oldest setting past x p all.1 there asks))
    at
  where
    first : Asks setting.salt x (record { before = past; action = d }) → IsOldest d.observation (sends_by (moves x) (d ∷ past))
    first a =
        let grown : sends_by (moves x) (d ∷ past) ≡ d.observation ∷ sends_by (moves x) past = sends-grow (moves x) past d (ap (same_act (moves x)) a.sends.act ∙ same_act-self x) (ap is_sending a.sends.outcome) in
        let none = never-sends setting past x all.1 a.first in
        subst (IsOldest d.observation) (sym (grown ∙ ap (λ (es : List Observation). d.observation ∷ es) none)) refl

    later : (b : Bool) → sends_for (moves x) d ≡ b → IsOldest p.action.observation (sends_by (moves x) past) → IsOldest p.action.observation (sends_by (moves x) (d ∷ past))
    later true e is = rw e (oldest-later p.action.observation d.observation (sends_by (moves x) past) is)
    later false e is = rw e is

-- a timer was started at the oldest of its transmissions
started-oldest : (t : Timer) (es : List Observation) (first : Observation) → IsTimer t es → IsOldest first es → t.started ≡ first.now
started-oldest t [] first is old = absurd is
started-oldest t (e ∷ es) first is old = is.1 ∙ ap (λ (f : Observation). f.now) old

-- so the timer of a request was started where the request was first sent
pub started-asking : {setting : Setting} {history : List Action} {x : ℕ} {key : CacheKey} {form : List ℕ} {s : Sending} → AllJustified setting history → (a : WasAsked setting history x key form s) → s.timer.started ≡ a.asking.action.observation.now
started-asking {setting = setting} {history = history} {x = x} {s = s} all a = started-oldest s.timer (sends_by (moves x) history) a.asking.action.observation a.timer (asking-oldest setting history x a.asking all a.was_asked a.asks)

-- ---- what is known of a sending

-- the request of an exchange was sent as its sending says, if it has one
pub was-sent : (setting : Setting) (history : List Action) (x : Numbered Exchange) (s : ExchangeState) → IsState setting history x s → WasSent setting history x.0 x.1.key x.1.form x.1.sending
was-sent setting history x Queued state = subst (WasSent setting history x.0 x.1.key x.1.form) (sym state.unsent) tt
was-sent setting history x Sent state = subst (WasSent setting history x.0 x.1.key x.1.form) (sym state.sending_is) state.asked
was-sent setting history x Acked state = subst (WasSent setting history x.0 x.1.key x.1.form) (sym state.sending_is) state.asked
was-sent setting history x (Done a) state = state.was_sent

-- so the request of an exchange with a sending was sent
pub was-asked : (setting : Setting) (history : List Action) (x : Numbered Exchange) (s : Sending) → IsExchangeOf setting history x → x.1.sending ≡ Some s → WasAsked setting history x.0 x.1.key x.1.form s
was-asked setting history x s f is = subst (WasSent setting history x.0 x.1.key x.1.form) is (was-sent setting history x x.1.state f.state)

-- the position where a request was first sent gave out its id
asking-gives : (salt x : ℕ) (p : Position) (asks : Asks salt x p) (id : ℕ) → asks.sends.message.id ≡ id → GivesId id p
asking-gives salt x p asks id is = record { gives = ap (ids_given (comes_con p.action.observation.event)) asks.sends.outcome; message = asks.sends.message; spells = asks.sends.spells; id_is = is }

-- ---- one request for an id

-- two exchanges whose requests were first sent with the same id, less than 247 seconds ago, are
-- equal
pub one-asked : (w : State) (history : List Action) → Bears history w → (now : ℕ) → last_of history ≤ now → (x y : ℕ) (a_key b_key : CacheKey) (a_form b_form : List ℕ) (s t : Sending) (a : WasAsked w.setting history x a_key a_form s) (b : WasAsked w.setting history y b_key b_form t) → s.id ≡ t.id → now < s.timer.started + 247000 → now < t.timer.started + 247000 → x ≡ y
one-asked w history c now since x y a_key b_key a_form b_form s t a b same s_soon t_soon =
    let position = ⊎_elim (λ (less : a.asking.action.observation.now < b.asking.action.observation.now). before (omega (arith, less))) (λ (le : b.asking.action.observation.now ≤ a.asking.action.observation.now). sym (after le)) (cases_lt a.asking.action.observation.now b.asking.action.observation.now) in
    same_moves x y (sym a.asks.sends.act ∙ ap (λ (p : Position). p.action.act) position ∙ b.asks.sends.act)
  where
    differ : (p q : Position) → IsPositionOf history p → IsPositionOf history q → GivesId s.id p → GivesId s.id q → p.action.observation.now ≤ q.action.observation.now → q.action.observation.now < p.action.observation.now + 247000 → p ≡ q
    differ p q = ids-differ w.setting.first_id history c.ids.are_ids c.ids.windows c.clock.in_order p q s.id

    a_gives : GivesId s.id a.asking
    a_gives = asking-gives w.setting.salt x a.asking a.asks s.id (sym a.id_is)

    b_gives : GivesId s.id b.asking
    b_gives = asking-gives w.setting.salt y b.asking b.asks s.id (sym b.id_is ∙ sym same)

    a_began : s.timer.started ≡ a.asking.action.observation.now
    a_began = started-asking c.past a

    b_began : t.timer.started ≡ b.asking.action.observation.now
    b_began = started-asking c.past b

    a_last : a.asking.action.observation.now ≤ last_of history
    a_last = not-later history a.asking c.clock.in_order a.was_asked

    b_last : b.asking.action.observation.now ≤ last_of history
    b_last = not-later history b.asking c.clock.in_order b.was_asked

    before : a.asking.action.observation.now ≤ b.asking.action.observation.now → a.asking ≡ b.asking
    before le = differ a.asking b.asking a.was_asked b.was_asked a_gives b_gives le (omega (arith, b_last, since, s_soon, a_began))

    after : b.asking.action.observation.now ≤ a.asking.action.observation.now → b.asking ≡ a.asking
    after le = differ b.asking a.asking b.was_asked a.was_asked b_gives a_gives le (omega (arith, a_last, since, t_soon, b_began))

-- two exchanges whose requests were sent with the same id, less than 247 seconds ago, are equal
pub one-sent : (w : State) (history : List Action) → Bears history w → (now : ℕ) → last_of history ≤ now → (x y : Numbered Exchange) → IsExchangeOf w.setting history x → IsExchangeOf w.setting history y → (s t : Sending) → x.1.sending ≡ Some s → y.1.sending ≡ Some t → s.id ≡ t.id → now < s.timer.started + 247000 → now < t.timer.started + 247000 → x.0 ≡ y.0
one-sent w history c now since x y f g s t s_is t_is same s_soon t_soon =
    one-asked w history c now since x.0 y.0 x.1.key y.1.key x.1.form y.1.form s t (was-asked w.setting history x s f s_is) (was-asked w.setting history y t g t_is) same s_soon t_soon

-- ---- what was sent with an id

-- a sending has this id, and was begun less than 247,000 ms ago
pub record IsAs (id now : ℕ) (s : Sending) : Type 0 where
  pub id_is : s.id ≡ id
  pub soon : now < s.timer.started + 247000

-- it passes the test exactly then
pub as-is : (id now : ℕ) (s : Sending) → is_meant_by id now s ≡ true → IsAs id now s
as-is id now s e =
    let parts = and_parts (s.id == id) (ltb (now - s.timer.started) 247000) e in
    let less = ltb-true _ _ parts.1 in
    record { id_is = eqb-true s.id id parts.0; soon = omega (arith, less) }

pub is-as : (id now : ℕ) (s : Sending) → IsAs id now s → is_meant_by id now s ≡ true
is-as id now s a = let soon = a.soon in and_from _ _ (eq-eqb s.id id a.id_is) (lt-ltb (now - s.timer.started) 247000 (omega (arith, soon)))

-- the request of an exchange was sent to this endpoint with this id, less than 247,000 ms ago
pub record WasSentAs (at : Endpoint) (id now : ℕ) (x : Exchange) : Type 0 where
  pub to : x.key.target.at ≡ at
  pub sending : Sending
  pub sending_is : x.sending ≡ Some sending
  pub named : IsAs id now sending

-- it passes the test exactly then
pub sent-as : (at : Endpoint) (id now : ℕ) (x : Exchange) → was_sent_as at id now x ≡ true → WasSentAs at id now x
sent-as at id now x e = let parts = and_parts (same_endpoint x.key.target.at at) (is_some_as id now x.sending) e in go x.sending refl (Tells-endpoint.only x.key.target.at at parts.0) parts.1
  where
    go : (o : Option Sending) → x.sending ≡ o → x.key.target.at ≡ at → is_some_as id now o ≡ true → WasSentAs at id now x
    go None is to f = absurd cc
    go (Some s) is to f = record { to = to; sending = s; sending_is = is; named = as-is id now s f }

pub is-sent-as : (at : Endpoint) (id now : ℕ) (x : Exchange) → WasSentAs at id now x → was_sent_as at id now x ≡ true
is-sent-as at id now x s =
    and_from _ _ (subst (λ (e : Endpoint). same_endpoint x.key.target.at e ≡ true) s.to (Tells-endpoint.itself x.key.target.at)) (ap (is_some_as id now) s.sending_is ∙ is-as id now s.sending s.named)

-- two exchanges whose requests were sent with the same id are equal
pub one-sent-as : (w : State) (history : List Action) → Bears history w → (at to : Endpoint) (id now : ℕ) → last_of history ≤ now → (x y : Numbered Exchange) → IsExchangeOf w.setting history x → IsExchangeOf w.setting history y → WasSentAs at id now x.1 → WasSentAs to id now y.1 → x.0 ≡ y.0
one-sent-as w history c at to id now since x y f g s t = one-sent w history c now since x y f g s.sending t.sending s.sending_is t.sending_is (s.named.id_is ∙ sym t.named.id_is) s.named.soon t.named.soon

-- ---- the search for it

-- and an exchange that was sent with the id is the one that is found
pub as-found : (w : State) (history : List Action) → Bears history w → (at : Endpoint) (id now : ℕ) → last_of history ≤ now → (x : Numbered Exchange) → Has x w.exchanges → WasSentAs at id now x.1 → first_that (was_sent_as at id now) w.exchanges ≡ Some x.0
as-found w history c at id now since x there s = go (find (λ (y : Numbered Exchange). was_sent_as at id now y.1) w.exchanges) refl
  where
    go : (o : Option (Numbered Exchange)) → find (λ (y : Numbered Exchange). was_sent_as at id now y.1) w.exchanges ≡ o → option_map (λ (y : Numbered Exchange). y.0) (find (λ (y : Numbered Exchange). was_sent_as at id now y.1) w.exchanges) ≡ Some x.0
    go None is = absurd (let none = Has-holds (λ (y : Numbered Exchange). was_sent_as at id now y.1 ≡ false) w.exchanges x (none-found (λ (y : Numbered Exchange). was_sent_as at id now y.1) w.exchanges is) there in let f = sym (is-sent-as at id now x.1 s) ∙ none in cc)
    go (Some y) is =
        let h = find-holds (IsExchangeOf w.setting history) (λ (z : Numbered Exchange). was_sent_as at id now z.1) w.exchanges y c.exchanges is in
        let same = one-sent-as w history c at at id now since y x h.0 (Has-holds (IsExchangeOf w.setting history) w.exchanges x c.exchanges there) (sent-as at id now y.1 h.1) s in
        ap (option_map (λ (z : Numbered Exchange). z.0)) is ∙ ap (λ (n : ℕ). Some n) same

-- ---- according to the history

-- an exchange in flight was sent with the id of its request, to the endpoint of its request
pub asked-as : (w : State) (history : List Action) → Bears history w → (now : ℕ) (x : Numbered Exchange) (flight : IsInFlight w.setting history x) (p : Position) → IsPositionOf history p → (asks : Asks w.setting.salt x.0 p) → now < p.action.observation.now + 247000 → WasSentAs asks.sends.to asks.sends.message.id now x.1
asked-as w history c now x flight p at asks soon =
    let a = flight.asked in
    let position = sent-once w.setting history x.0 a.asking p c.past a.was_asked at a.asks.sends asks.sends in
    let one = one-sends w.setting.salt x.0 a.asking p position a.asks.sends asks.sends in
    let began = started-asking c.past a in
    let moment = ap (λ (q : Position). q.action.observation.now) position in
    record {
      to = sym a.to ∙ one.0;
      sending = flight.sending;
      sending_is = flight.sending_is;
      named = record { id_is = a.id_is ∙ ap (λ (m : Message). m.id) one.1; soon = omega (arith, soon, began, moment) };
    }
  where
    one-sends : (salt n : ℕ) (q r : Position) → q ≡ r → (s : Sends salt n q) (t : Sends salt n r) → (s.to ≡ t.to) × (s.message ≡ t.message)
    one-sends salt n q r same s t = (
      same_Some s.to t.to (sym s.sent ∙ ap (λ (o : Position). o.action.observation.report.send) same ∙ t.sent),
      one_message r.action.observation.bytes s.message t.message (subst (λ (o : Position). Spells o.action.observation.bytes s.message) same s.spells) t.spells,
    )
