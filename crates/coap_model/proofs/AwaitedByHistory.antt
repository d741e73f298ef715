-- What is awaited: what the history awaits is found in the tables, and what is found there is
-- awaited by the history.
use Rattle.std.proofs.Common.{◌≡◌, ◌⊎◌, inl, inr, ⊎_elim, ℕ, ◌-◌, ◌<◌, ◌≤◌, Bool, true, false, List, length, Option, Some, None, refl, sym, ap, ◌∙◌, subst, arith}
use Rattle.std.specs.Prelude.{◌&&◌, ◌||◌, ◌==◌, find, nat_lt, if◌then◌else◌, option_map}
use Rattle.std.proofs.lemmas.Cmp.{nat_list_eq_equiv}
use Rattle.std.specs.Cmp.Lexicographic.{same_text}
use Rattle.std.proofs.lemmas.Bool.{eq-eqb, eqb-true, ltb-true, lt-ltb, and_from, and_parts}
use Rattle.std.proofs.lemmas.Option.{same_Some}
use Rattle.coap_message.specs.declared.kind.Kind.{Kind}
use Rattle.coap_message.specs.declared.kind.Kind.TheVariants.{Con, Non, Ack, Rst}
use Rattle.coap_message.specs.declared.code.TheConstants.Code.{EMPTY}
use Rattle.coap_message.specs.Uint.{IsBytes}
use Rattle.coap_message.specs.Message.{Message}
use Rattle.coap_message.specs.Spelling.{Spells}
use Rattle.coap_message.specs.Reading.{read_message}
use Rattle.coap_message.proofs.WholeMessages.{read_again, one_message}
use Rattle.coap_endpoint.specs.declared.endpoint.Endpoint.{Endpoint}
use Rattle.coap_endpoint.specs.Endpoint.{same_endpoint}
use Rattle.coap_endpoint.specs.Equality.{same_bytes}
use Rattle.coap_endpoint.proofs.Equality.{Tells-both, Tells-endpoint}
use Rattle.coap_endpoint.proofs.Lists.{none-found}
use Rattle.coap_pending.specs.declared.exchange.Exchange.{Exchange}
use Rattle.coap_pending.specs.declared.exchange.ExchangeState.{ExchangeState}
use Rattle.coap_pending.specs.declared.exchange.ExchangeState.TheVariants.{Queued, Sent, Acked, Done}
use Rattle.coap_pending.specs.declared.exchange.Sending.{Sending}
use Rattle.coap_pending.specs.declared.timer.Timer.{Timer}
use Rattle.coap_pending.specs.declared.waiter.Waiter.{Waiter}
use Rattle.coap_pending.specs.declared.waiter.WaiterState.{WaiterState}
use Rattle.coap_pending.specs.declared.waiter.WaiterState.TheVariants.{Waiting, Delivering}
use Rattle.coap_pending.specs.Waiters as waiters
use Rattle.coap_pending.specs.Waiters.{is_delivered_as}
use Rattle.coap_pending.specs.Exchanges.{is_sent_state, is_acked, is_acked_state, is_meant_by, is_some_as, was_sent_as, is_in_flight, was_sent_with}
use Rattle.coap_pending.specs.Table.{Numbered, IsRising, first_that, item_at}
use Rattle.coap_model.specs.Setting.{Setting}
use Rattle.coap_model.specs.Events.{arrival}
use Rattle.coap_message.specs.Codes.{is_response}
use Rattle.coap_forward.specs.Messages.{is_ack, is_rst, is_bare, is_empty, brings_requests, brings_responses, token_of}
use Rattle.coap_model.specs.State.{State, records_of}
use Rattle.coap_model.specs.Step.{message_in}
use Rattle.coap_model.specs.Responses.{has_id, awaits, awaiting}
use Rattle.coap_model.specs.Standing.{sent, stage_of, delivering, service_of}
use Rattle.coap_dedup.specs.Lists.{record_of}
use Rattle.coap_dedup.specs.Records.{living_at}
use Rattle.coap_model.specs.History.{last_of, Action, Position, IsPositionOf, Never, Somewhere, Opens, Sends, Asks, Serves, Matches, in_acknowledgement, separate, by_reset, Brings, Meets, Ends}
use Rattle.coap_model.specs.Justified.{Comes, known_of, IsUnsettled, IsAwaited, Acknowledges, Closes, AllJustified}
use Rattle.coap_model.specs.declared.report.Outcome.TheVariants.{SentRequest}
use Rattle.coap_model.specs.Carries.{stage_at, service_in, IsState, IsInFlight, IsExchangeOf, HasNumber, IsDelivering, IsWaiterIn, IsWaiterOf, Bears}
use Rattle.coap_model.proofs.DueByHistory.{stage-is, staged-there, service-is, served-there}
use Rattle.coap_model.proofs.Lists.{find-holds, Has, Has-all, All-both, All-there}
use Rattle.coap_model.proofs.Sendings.{started-asking, asked-as, as-found}
use Rattle.coap_model.proofs.Verdicts.{code-same}
use Rattle.coap_model.proofs.Tables.{at-number, item-Has, item-holds, Has-item, one-item}
use Rattle.coap_model.proofs.Encodings.{message_in-is, message_in-again}
use Rattle.coap_model.proofs.Positions.{first-once, same_moves, position-before, justified-at, Never-at, arrival-same}
use Rattle.coap_model.proofs.Rules as rules
use Rattle.coap_model.proofs.RecordsOfHistory.{known-is}
use Rattle.coap_model.proofs.Rules.{IsAbout, IsOfAnswer, IsAnswerFor, IsNothing, recorded-kind, request-brings}

-- an exchange whose request was sent was opened before
pub asked-opened : (setting : Setting) (history : List Action) → AllJustified setting history → (x : ℕ) (p : Position) → IsPositionOf history p → Sends setting.salt x p → Somewhere (Opens x) history
asked-opened setting history all x p at s =
    let f = justified-at setting history p SentRequest all at s.outcome in
    let same = same_moves f.exchange x (sym f.act ∙ s.act) in
    let o = f.to_send.opened in
    record { position = o.opening; is_there = position-before history p o.opening at o.was_opened; holds = subst (λ (n : ℕ). Opens n o.opening) same o.opens }

-- ---- from the tables to the history

-- what is known of an exchange whose request was sent, and that isn't answered
pub record IsHere (w : State) (history : List Action) (source : Endpoint) (x : Numbered Exchange) : Type 0 where
  pub exchange : IsExchangeOf w.setting history x
  pub there : Has x w.exchanges
  pub found : item_at x.0 w.exchanges ≡ Some x.1
  pub flight : IsInFlight w.setting history x
  pub going : is_in_flight x.1 ≡ true
  pub source_is : x.1.key.target.at ≡ source

-- an exchange that passes this test is in flight
in-flight : (setting : Setting) (history : List Action) (x : Numbered Exchange) (s : ExchangeState) → IsState setting history x s → (is_sent_state s || is_acked_state s) ≡ true → IsInFlight setting history x
in-flight setting history x Queued state e = absurd cc
in-flight setting history x Sent state e = state
in-flight setting history x Acked state e = state
in-flight setting history x (Done a) state e = absurd cc

sent_state : (s : ExchangeState) → is_sent_state s ≡ true → s ≡ Sent
sent_state Queued e = absurd cc
sent_state Sent e = refl
sent_state Acked e = absurd cc
sent_state (Done a) e = absurd cc

-- a response of a type that can bring it answers the request, if its token and id match
response-matches : (k : Kind) (m : Message) (token : List ℕ) (id : ℕ) → m.kind ≡ k → brings_responses k ≡ true → is_response m.code ≡ true → m.token ≡ token → (is_ack k ≡ true → m.id ≡ id) → Matches token id m
response-matches Con m token id is e code same ack = separate (ap brings_requests is) code same
response-matches Non m token id is e code same ack = separate (ap brings_requests is) code same
response-matches Ack m token id is e code same ack = in_acknowledgement is code same (ack refl)
response-matches Rst m token id is e code same ack = absurd cc

-- a bare message that isn't an acknowledgement is a Reset
rst-is : (k : Kind) → (is_ack k || is_rst k) ≡ true → is_ack k ≡ false → k ≡ Rst
rst-is Con e other = absurd cc
rst-is Non e other = absurd cc
rst-is Ack e other = absurd cc
rst-is Rst e other = refl

pub ack-is : (k : Kind) → is_ack k ≡ true → k ≡ Ack
ack-is Con e = absurd cc
ack-is Non e = absurd cc
ack-is Ack e = refl
ack-is Rst e = absurd cc

-- a Reset brings no response
rst-brings : (k : Kind) → k ≡ Rst → brings_responses k ≡ true → ⊥
rst-brings Con is e = absurd cc
rst-brings Non is e = absurd cc
rst-brings Ack is e = absurd cc
rst-brings Rst is e = absurd cc

-- the code of an Empty message
pub empty-is : (m : Message) → is_bare m ≡ true → m.code ≡ EMPTY
empty-is m bare = code-same m.code EMPTY (eqb-true m.code.0 0 (and_parts (is_empty m.code) (is_ack m.kind || is_rst m.kind) bare).0)

module _ (w : State) (history : List Action) (c : Bears history w) (now : ℕ) (source : Endpoint) (m : Message) (x : Numbered Exchange) where
  -- the exchange that the search for a response finds awaits it
  response-here : awaiting w source m ≡ Some x → IsHere w history source x × (has_id m x.1.sending ≡ true) × (m.token ≡ token_of w.setting.salt x.0)
  response-here found =
      let f = find-holds (λ y. IsExchangeOf w.setting history y × Has y w.exchanges) (awaits w.setting.salt source m) w.exchanges x (All-there (IsExchangeOf w.setting history) w.exchanges c.exchanges) found in
      let parts = and_parts (is_in_flight x.1 && has_id m x.1.sending) (same_endpoint x.1.key.target.at source && same_bytes (token_of w.setting.salt x.0) m.token) f.1 in
      let first = and_parts (is_in_flight x.1) (has_id m x.1.sending) parts.0 in
      let more = and_parts (same_endpoint x.1.key.target.at source) (same_bytes (token_of w.setting.salt x.0) m.token) parts.1 in (
        record {
          exchange = f.0.0;
          there = f.0.1;
          found = Has-item 0 w.exchanges x c.whole.rising f.0.1;
          flight = in-flight w.setting history x x.1.state f.0.0.state first.0;
          going = first.0;
          source_is = Tells-endpoint.only x.1.key.target.at source more.0;
        },
        first.1,
        sym (same_text _ _ (sym more.1)),
      )

-- the exchange that a search finds passes the test
first-passes : (test : Exchange → Bool) (xs : List (Numbered Exchange)) (least : ℕ) (x : Numbered Exchange) → IsRising least xs → first_that test xs ≡ Some x.0 → Has x xs → test x.1 ≡ true
first-passes test xs least x rising first there = go (find (λ (y : Numbered Exchange). test y.1) xs) refl first
  where
    go : (o : Option (Numbered Exchange)) → find (λ (y : Numbered Exchange). test y.1) xs ≡ o → option_map (λ (y : Numbered Exchange). y.0) o ≡ Some x.0 → test x.1 ≡ true
    go None is e = absurd cc
    go (Some y) is e =
        let f = find-holds (λ z. Has z xs) (λ (z : Numbered Exchange). test z.1) xs y (Has-all xs) is in
        let one = one-item least xs y x rising f.0 there (same_Some y.0 x.0 e) in
        subst (λ (b : Exchange). test b ≡ true) one f.1

-- what is known of the exchange whose request an Empty message refers to
pub record IsSentAs (w : State) (history : List Action) (now : ℕ) (source : Endpoint) (m : Message) (x : Numbered Exchange) : Type 0 where
  pub here : IsHere w history source x
  pub state_is : x.1.state ≡ Sent
  pub id_is : here.flight.sending.id ≡ m.id
  pub soon : now - here.flight.sending.timer.started < 247000

module _ (w : State) (history : List Action) (c : Bears history w) (now : ℕ) (source : Endpoint) (m : Message) (x : Numbered Exchange) where
  -- the exchange that an Empty message refers to is there, and was sent with its id
  pub about-here : IsAbout w now source m x → IsSentAs w history now source m x
  about-here a =
      let there = item-Has x.0 w.exchanges x.1 a.found in
      let exchange = item-holds (IsExchangeOf w.setting history) x.0 w.exchanges x.1 c.exchanges a.found in
      let state = sent_state x.1.state a.sent in
      let flight : IsInFlight w.setting history x = subst (IsState w.setting history x) state exchange.state in
      let test = first-passes (was_sent_as source m.id now) w.exchanges 0 x c.whole.rising a.first there in
      let parts = and_parts (same_endpoint x.1.key.target.at source) (is_some_as m.id now x.1.sending) test in
      let same_as : is_meant_by m.id now flight.sending ≡ true = ap (is_some_as m.id now) (sym flight.sending_is) ∙ parts.1 in
      let both = and_parts (flight.sending.id == m.id) (nat_lt (now - flight.sending.timer.started) 247000) same_as in
      record {
        here = record {
          exchange = exchange;
          there = there;
          found = a.found;
          flight = flight;
          going = ap (λ (b : Bool). b || is_acked x.1) a.sent;
          source_is = Tells-endpoint.only x.1.key.target.at source parts.0;
        };
        state_is = state;
        id_is = eqb-true flight.sending.id m.id both.0;
        soon = ltb-true (now - flight.sending.timer.started) 247000 both.1;
      }

  -- so its request waits for an acknowledgement
  pub sent-unsettled : (a : IsSentAs w history now source m x) → IsUnsettled history now x.0 a.here.flight.asked.asking
  sent-unsettled a =
      let flight = a.here.flight in
      let soon = a.soon in
      let since = started-asking c.past flight.asked in
      record {
        to = x.1.key.target.at;
        stage = stage-is w history c x a.here.there ∙ ap (λ (s : ExchangeState). Some (stage_at x.1.key.target.at s)) a.state_is;
        soon = omega (arith, soon, since);
      }

  -- a message that gives an exchange its answer answers its request
  pub answer-here : IsAnswerFor w now source m x → (h : IsHere w history source x) × Matches (token_of w.setting.salt x.0) h.flight.asked.asks.sends.message.id m × (m.kind ≡ Rst → IsUnsettled history now x.0 h.flight.asked.asking)
  answer-here (rules.by_response response found) =
      let h = response-here w history c now source m x found in
      let tests = and_parts (brings_responses m.kind) (is_response m.code) response in
      let flight = h.0.flight in
      let id : is_ack m.kind ≡ true → m.id ≡ flight.asked.asks.sends.message.id = λ ack. sym (eqb-true flight.sending.id m.id (ap (was_sent_with m.id) (sym flight.sending_is) ∙ ap (λ (b : Bool). if b then was_sent_with m.id x.1.sending else true) (sym ack) ∙ h.1)) ∙ flight.asked.id_is in
      (h.0, response-matches m.kind m (token_of w.setting.salt x.0) flight.asked.asks.sends.message.id refl tests.0 tests.1 h.2 id, λ rst. absurd (rst-brings m.kind rst tests.0))
  answer-here (rules.by_reset about other) =
      let a = about-here about in
      let flight = a.here.flight in
      (a.here, by_reset (rst-is m.kind (and_parts (is_empty m.code) (is_ack m.kind || is_rst m.kind) about.bare).1 other) (empty-is m about.bare) (sym a.id_is ∙ flight.asked.id_is), λ rst. sent-unsettled a)

  -- the source is the endpoint that the request was sent to
  pub from-here : (h : IsHere w history source x) → source ≡ h.flight.asked.asks.sends.to
  from-here h = sym (h.flight.asked.to ∙ h.source_is)

  -- the event brings the answer to the request of that exchange
  abbrev pub meets-here : (h : IsHere w history source x) → Matches (token_of w.setting.salt x.0) h.flight.asked.asks.sends.message.id m → (bytes : List ℕ) → Spells bytes m → length bytes ≤ w.setting.limits.datagram → Meets w.setting x.0 history (arrival source bytes)
  meets-here h matches bytes spells short = record {
    asking = h.flight.asked.asking;
    was_asked = h.flight.asked.was_asked;
    asks = h.flight.asked.asks;
    message = m;
    brings = record { bytes = bytes; came = ap (λ (to : Endpoint). arrival to bytes) (from-here h); spells = spells; short = short };
    matches = matches;
  }

  -- so the history awaits it
  pub awaited-by : (bytes : List ℕ) → IsBytes bytes → message_in w.setting.limits.datagram bytes ≡ Some m → IsAnswerFor w now source m x → IsAwaited w.setting history now x.0 (arrival source bytes)
  awaited-by bytes fits read for =
      let a = answer-here for in
      let came = message_in-is w.setting.limits.datagram bytes m fits read in
      record {
        meets = meets-here a.0 a.1 bytes came.0 came.1;
        unended = a.0.flight.unended;
        unsettled = a.2;
      }

-- ---- from the history to the tables

-- a message of a type that brings requests isn't an acknowledgement
not_ack : (k : Kind) → brings_requests k ≡ true → is_ack k ≡ true → ⊥
not_ack Con e f = absurd cc
not_ack Non e f = absurd cc
not_ack Ack e f = absurd cc
not_ack Rst e f = absurd cc

-- an Empty acknowledgement or Reset is bare
bare-so : (m : Message) → m.code ≡ EMPTY → (is_ack m.kind || is_rst m.kind) ≡ true → is_bare m ≡ true
bare-so m code kind = and_from (is_empty m.code) (is_ack m.kind || is_rst m.kind) (ap is_empty code) kind

-- the request was sent with the expected id
has-id-so : (m : Message) (o : Option Sending) (s : Sending) → o ≡ Some s → (is_ack m.kind ≡ true → s.id ≡ m.id) → has_id m o ≡ true
has-id-so m o s is id = go (is_ack m.kind) refl
  where
    go : (b : Bool) → is_ack m.kind ≡ b → (if b then was_sent_with m.id o else true) ≡ true
    go true ack = ap (was_sent_with m.id) is ∙ eq-eqb s.id m.id (id ack)
    go false other = refl

-- equal positions have the same endpoint and the same id
same-sending : (salt x y : ℕ) (p q : Position) → p ≡ q → (f : Sends salt x p) (g : Sends salt y q) → (f.to ≡ g.to) × (f.message.id ≡ g.message.id)
same-sending salt x y p q e f g =
    let sent : Some f.to ≡ Some g.to = sym f.sent ∙ ap (λ (r : Position). r.action.observation.report.send) e ∙ g.sent in
    let spells = subst (λ (r : Position). Spells r.action.observation.bytes f.message) e f.spells in
    (cc, ap (λ (m : Message). m.id) (one_message q.action.observation.bytes f.message g.message spells g.spells))

found-asked : (setting : Setting) (history : List Action) (y : Numbered Exchange) (m : Position) (s : ExchangeState) → IsPositionOf history m → Asks setting.salt y.0 m → Never (Ends y.0) history → IsState setting history y s → ((is_sent_state s || is_acked_state s) ≡ true) × ((flight : IsInFlight setting history y) × (flight.asked.asking ≡ m))
found-asked setting history y m Queued was asks unended state = absurd (Never-at (Sends setting.salt y.0) history m state.never_sent was asks.sends)
found-asked setting history y m (Done answer) was asks unended state = absurd (Never-at (Ends y.0) history state.ending unended state.was_ended state.ends)
found-asked setting history y m Sent was asks unended state = (refl, (state, first-once (Sends setting.salt y.0) history state.asked.asking m state.asked.was_asked was state.asked.asks.sends asks.sends state.asked.asks.first asks.first))
found-asked setting history y m Acked was asks unended state = (refl, (state, first-once (Sends setting.salt y.0) history state.asked.asking m state.asked.was_asked was state.asked.asks.sends asks.sends state.asked.asks.first asks.first))

-- an exchange in this stage was sent
sent-stage : (at to : Endpoint) (s : ExchangeState) → stage_at at s ≡ sent to → s ≡ Sent
sent-stage at to Queued e = absurd cc
sent-stage at to Sent e = refl
sent-stage at to Acked e = absurd cc
sent-stage at to (Done a) e = absurd cc

module _ (w : State) (history : List Action) (c : Bears history w) (now : ℕ) (source : Endpoint) (bytes : List ℕ) (onward : w.last ≤ now) (none : IsNothing w now source bytes) where
  -- the message that an event brings is the one that is read
  read-here : {to : Endpoint} {m : Message} → (b : Brings w.setting.limits.datagram to m (arrival source bytes)) → (source ≡ to) × (message_in w.setting.limits.datagram bytes ≡ Some m)
  read-here {to} {m} b =
      let came = arrival-same source to bytes b.bytes b.came in
      (came.0, message_in-again w.setting.limits.datagram bytes m (ap read_message came.1 ∙ read_again b.bytes m b.spells) (rw came.1 b.short))

  -- a message that is ignored isn't a duplicate
  pub not-known : (other : Endpoint) (m : Message) → Comes w.setting other m (arrival source bytes) → known_of history now other m ≡ None
  not-known other m comes =
      let read = read-here comes.brings in
      let unknown = (none m read.1).unknown comes.recorded in
      ap (record_of other m.id) (sym (known-is w history c now other bytes m onward m.kind (recorded-kind m comes.recorded))) ∙ ap (λ (e : Endpoint). record_of e m.id (living_at now (records_of m.kind w))) (sym read.0) ∙ unknown

  -- an Empty message that is ignored doesn't refer to a request that waits for its acknowledgement
  not-about : (x : ℕ) (asking : Position) → IsPositionOf history asking → (asks : Asks w.setting.salt x asking) → IsUnsettled history now x asking → (m : Message) → Brings w.setting.limits.datagram asks.sends.to m (arrival source bytes) → is_bare m ≡ true → m.id ≡ asks.sends.message.id → ⊥
  not-about x asking was asks u m brings bare id = in_table (staged-there w history c x (sent u.to) u.stage)
    where
      read : (source ≡ asks.sends.to) × (message_in w.setting.limits.datagram bytes ≡ Some m)
      read = read-here brings

      since : last_of history ≤ now
      since = let last = c.clock.last in omega (arith, last, onward)

      waits : (y : Numbered Exchange) → IsExchangeOf w.setting history y → Has y w.exchanges → y.1.state ≡ Sent → (again : Asks w.setting.salt y.0 asking) → (again.sends.to ≡ asks.sends.to) × (again.sends.message.id ≡ asks.sends.message.id) → ⊥
      waits y f there state again same =
          let flight : IsInFlight w.setting history y = subst (IsState w.setting history y) state f.state in
          let was_sent = asked-as w history c now y flight asking was again u.soon in
          let first = as-found w history c again.sends.to again.sends.message.id now since y there was_sent in
          (none m read.1).about y (
          record {
            bare = bare;
            first = ap (λ (e : Endpoint). first_that (was_sent_as e m.id now) w.exchanges) (read.0 ∙ sym same.0) ∙ ap (λ (n : ℕ). first_that (was_sent_as again.sends.to n now) w.exchanges) (id ∙ sym same.1) ∙ first;
            found = Has-item 0 w.exchanges y c.whole.rising there;
            sent = ap is_sent_state state;
          }
          )

      in_table : HasNumber x w.exchanges → ⊥
      in_table has =
          let f = at-number (IsExchangeOf w.setting history) x w.exchanges has c.exchanges in
          let stage = sym (stage-is w history c f.0 f.3) ∙ ap (λ (n : ℕ). stage_of n history) (sym f.1) ∙ u.stage in
          let state = sent-stage f.0.1.key.target.at u.to f.0.1.state (same_Some (stage_at f.0.1.key.target.at f.0.1.state) (sent u.to) stage) in
          let again = subst (λ (n : ℕ). Asks w.setting.salt n asking) f.1 asks in
          waits f.0 f.2 f.3 state again (same-sending w.setting.salt f.0.0 x asking asking refl again.sends asks.sends)

  -- a response that is ignored isn't awaited
  not-response : (x : ℕ) → (a : IsAwaited w.setting history now x (arrival source bytes)) → brings_responses a.meets.message.kind ≡ true → is_response a.meets.message.code ≡ true → a.meets.message.token ≡ token_of w.setting.salt x → (is_ack a.meets.message.kind ≡ true → a.meets.message.id ≡ a.meets.asks.sends.message.id) → ⊥
  not-response x a kind code token id = in_table (c.whole.unended x (asked-opened w.setting history c.past x a.meets.asking a.meets.was_asked a.meets.asks.sends) a.unended)
    where
      m : Message
      m = a.meets.message

      read : (source ≡ a.meets.asks.sends.to) × (message_in w.setting.limits.datagram bytes ≡ Some a.meets.message)
      read = read-here a.meets.brings

      unfound : awaiting w source a.meets.message ≡ None
      unfound = (none a.meets.message read.1).response (and_from (brings_responses a.meets.message.kind) (is_response a.meets.message.code) kind code)

      one : (y : Numbered Exchange) → x ≡ y.0 → IsExchangeOf w.setting history y → awaits w.setting.salt source a.meets.message y ≡ false → Asks w.setting.salt y.0 a.meets.asking → Never (Ends y.0) history → ⊥
      one y number f missed again unended =
          let salt = w.setting.salt in
          let found = found-asked w.setting history y a.meets.asking y.1.state a.meets.was_asked again unended f.state in
          let flight = found.1.0 in
          let same = same-sending salt y.0 x flight.asked.asking a.meets.asking found.1.1 flight.asked.asks.sends a.meets.asks.sends in
          let right = and_from (same_endpoint y.1.key.target.at source) (same_bytes (token_of salt y.0) a.meets.message.token) ((Tells-both same_endpoint Tells-endpoint y.1.key.target.at source).1 (sym flight.asked.to ∙ same.0 ∙ sym read.0)) (let t : token_of salt y.0 ≡ a.meets.message.token = ap (token_of salt) (sym number) ∙ sym token in rw t (nat_list_eq_equiv.refl a.meets.message.token)) in
          let with_id = has-id-so a.meets.message y.1.sending flight.sending flight.sending_is (λ ack. flight.asked.id_is ∙ same.1 ∙ sym (id ack)) in
          let there = and_from (is_in_flight y.1) (has_id a.meets.message y.1.sending) found.0 with_id in
          let all = and_from (is_in_flight y.1 && has_id a.meets.message y.1.sending) (same_endpoint y.1.key.target.at source && same_bytes (token_of salt y.0) a.meets.message.token) there right in
          let both : true ≡ false = sym all ∙ missed in
          absurd cc

      in_table : HasNumber x w.exchanges → ⊥
      in_table has =
          let f = at-number (λ y. IsExchangeOf w.setting history y × (awaits w.setting.salt source a.meets.message y ≡ false)) x w.exchanges has (All-both (IsExchangeOf w.setting history) (λ y. awaits w.setting.salt source a.meets.message y ≡ false) w.exchanges c.exchanges (none-found (awaits w.setting.salt source a.meets.message) w.exchanges unfound)) in
          one f.0 f.1 f.2.0 f.2.1 (subst (λ (n : ℕ). Asks w.setting.salt n a.meets.asking) f.1 a.meets.asks) (subst (λ (n : ℕ). Never (Ends n) history) f.1 a.unended)

  -- no message that is ignored is awaited
  pub not-ignored : (x : ℕ) → IsAwaited w.setting history now x (arrival source bytes) → ⊥
  not-ignored x a = go a.meets.matches
    where
      go : Matches (token_of w.setting.salt x) a.meets.asks.sends.message.id a.meets.message → ⊥
      go (in_acknowledgement kind code token id) = not-response x a (ap brings_responses kind) code token (λ ack. id)
      go (separate kind code token) = not-response x a (request-brings a.meets.message.kind kind) code token (λ ack. absurd (not_ack a.meets.message.kind kind ack))
      go (by_reset kind code id) = not-about x a.meets.asking a.meets.was_asked a.meets.asks (a.unsettled kind) a.meets.message a.meets.brings (bare-so a.meets.message code (ap (λ (k : Kind). is_ack k || is_rst k) kind)) id

  -- nor is it an acknowledgement of a request that waits for one
  pub not-settled : (x : ℕ) → Acknowledges w.setting history now x (arrival source bytes) → ⊥
  not-settled x a = not-about x a.asking a.was_asked a.asks a.unsettled a.message a.brings (bare-so a.message a.empty (ap (λ (k : Kind). is_ack k || is_rst k) a.kind)) a.id_is

-- ---- the answers to waiters

-- a waiter was sent its answer in these bytes, with this id, by this timer
pub record WasDelivered (setting : Setting) (history : List Action) (v : Numbered Waiter) : Type 0 where
  pub bytes : List ℕ
  pub id : ℕ
  pub timer : Timer
  pub state_is : v.1.state ≡ Delivering bytes id timer
  pub delivering : IsDelivering setting history v bytes id timer

-- so was a waiter that hasn't acknowledged its answer yet
pub delivering-delivered : (setting : Setting) (history : List Action) (v : Numbered Waiter) → IsWaiterOf setting history v → service_in v.1.state ≡ delivering → WasDelivered setting history v
delivering-delivered setting history v f e = go v.1.state refl e f
  where
    go : (s : WaiterState) → v.1.state ≡ s → service_in s ≡ delivering → IsWaiterIn setting history v s → WasDelivered setting history v
    go (Waiting exchange) is e g = absurd cc
    go (Delivering bytes id timer) is e g = record { bytes = bytes; id = id; timer = timer; state_is = is; delivering = g }

-- and so was a waiter whose answer was sent with an id
sent-delivered : (setting : Setting) (history : List Action) (v : Numbered Waiter) (id now : ℕ) → IsWaiterOf setting history v → is_delivered_as id now v.1.state ≡ true → WasDelivered setting history v
sent-delivered setting history v id now f e = go v.1.state refl e f
  where
    go : (s : WaiterState) → v.1.state ≡ s → is_delivered_as id now s ≡ true → IsWaiterIn setting history v s → WasDelivered setting history v
    go (Waiting exchange) is e g = absurd cc
    go (Delivering bytes other timer) is e g = record { bytes = bytes; id = other; timer = timer; state_is = is; delivering = g }

-- ---- from the table to the history

-- a bare message is an acknowledgement or a Reset
bare-kind : (k : Kind) → (is_ack k || is_rst k) ≡ true → (k ≡ Ack) ⊎ (k ≡ Rst)
bare-kind Con e = absurd cc
bare-kind Non e = absurd cc
bare-kind Ack e = inl refl
bare-kind Rst e = inr refl

module _ (w : State) (history : List Action) (c : Bears history w) (now : ℕ) (source : Endpoint) (bytes : List ℕ) where
  -- an Empty message closes the waiter that was sent its answer with this id at its source
  closes-one : (m : Message) (v : Numbered Waiter) → IsBytes bytes → message_in w.setting.limits.datagram bytes ≡ Some m → is_bare m ≡ true → IsWaiterOf w.setting history v → Has v w.waiters → waiters.was_sent_as source m.id now v.1 ≡ true → Closes w.setting history now v.0 (arrival source bytes)
  closes-one m v fits read bare f there passes =
      let came = message_in-is w.setting.limits.datagram bytes m fits read in
      let parts = and_parts (same_endpoint v.1.client source) (is_delivered_as m.id now v.1.state) passes in
      let client = Tells-endpoint.only v.1.client source parts.0 in
      let was = sent-delivered w.setting history v m.id now f parts.1 in
      let d = was.delivering in
      let test : is_delivered_as m.id now (Delivering was.bytes was.id was.timer) ≡ true = ap (is_delivered_as m.id now) (sym was.state_is) ∙ parts.1 in
      let both = and_parts (was.id == m.id) (nat_lt (now - was.timer.started) 247000) test in
      let began = d.started in
      let since : now - was.timer.started < 247000 = ltb-true (now - was.timer.started) 247000 both.1 in
      record {
        serving = d.serving;
        was_served = d.was_served;
        serves = d.is_serving;
        service = service-is w history c v there ∙ ap (λ (s : WaiterState). Some (service_in s)) was.state_is;
        soon = omega (arith, began, since);
        to = v.1.client;
        sent = d.sent;
        answer = d.answer;
        spells = d.spells;
        message = m;
        brings = record { bytes = bytes; came = ap (λ (to : Endpoint). arrival to bytes) (sym client); spells = came.0; short = came.1 };
        kind = bare-kind m.kind (and_parts (is_empty m.code) (is_ack m.kind || is_rst m.kind) bare).1;
        empty = empty-is m bare;
        id_is = sym (eqb-true was.id m.id both.0) ∙ d.id_is;
      }

  -- so the waiter that is found is closed
  pub closes-here : (m : Message) (n : ℕ) → IsBytes bytes → message_in w.setting.limits.datagram bytes ≡ Some m → IsOfAnswer w now source m n → Closes w.setting history now n (arrival source bytes)
  closes-here m n fits read about = go (find (λ (v : Numbered Waiter). waiters.was_sent_as source m.id now v.1) w.waiters) refl about.first
    where
      go : (o : Option (Numbered Waiter)) → find (λ (v : Numbered Waiter). waiters.was_sent_as source m.id now v.1) w.waiters ≡ o → option_map (λ (v : Numbered Waiter). v.0) o ≡ Some n → Closes w.setting history now n (arrival source bytes)
      go None is e = absurd cc
      go (Some v) is e =
          let f = find-holds (λ u. IsWaiterOf w.setting history u × Has u w.waiters) (λ (u : Numbered Waiter). waiters.was_sent_as source m.id now u.1) w.waiters v (All-there (IsWaiterOf w.setting history) w.waiters c.waiters) is in
          subst (λ (k : ℕ). Closes w.setting history now k (arrival source bytes)) (same_Some v.0 n e) (closes-one m v fits read about.bare f.0.0 f.0.1 f.1)

  -- what is read from a datagram that closes a waiter
  closing-read : {n : ℕ} (k : Closes w.setting history now n (arrival source bytes)) → (source ≡ k.to) × (message_in w.setting.limits.datagram bytes ≡ Some k.message)
  closing-read k =
      let b = k.brings in
      let came = arrival-same source k.to bytes b.bytes b.came in
      (came.0, message_in-again w.setting.limits.datagram bytes k.message (ap read_message came.1 ∙ read_again b.bytes k.message b.spells) (rw came.1 b.short))

  -- the message that closes a waiter is bare
  closing-bare : {n : ℕ} (k : Closes w.setting history now n (arrival source bytes)) → is_bare k.message ≡ true
  closing-bare k =
      bare-so k.message k.empty
      (⊎_elim (λ (ack : k.message.kind ≡ Ack). ap (λ (kind : Kind). is_ack kind || is_rst kind) ack) (λ (reset : k.message.kind ≡ Rst). ap (λ (kind : Kind). is_ack kind || is_rst kind) reset) k.kind)

  -- a waiter that is closed passes the test
  closed-passes : {n : ℕ} (k : Closes w.setting history now n (arrival source bytes)) (v : Numbered Waiter) → n ≡ v.0 → IsWaiterOf w.setting history v → Has v w.waiters → waiters.was_sent_as source k.message.id now v.1 ≡ true
  closed-passes {n} k v number f there =
      let e = sym (service-is w history c v there) ∙ ap (λ (u : ℕ). service_of u history) (sym number) ∙ k.service in
      let was = delivering-delivered w.setting history v f (same_Some (service_in v.1.state) delivering e) in
      let d = was.delivering in
      let position = d.only k.serving k.was_served (subst (λ (u : ℕ). Serves u k.serving) number k.serves) in
      let to : v.1.client ≡ k.to = same_Some v.1.client k.to (sym d.sent ∙ ap (λ (p : Position). p.action.observation.report.send) (sym position) ∙ k.sent) in
      let answer = one_message d.serving.action.observation.bytes k.answer d.answer (subst (λ (p : Position). Spells p.action.observation.bytes k.answer) position k.spells) d.spells in
      let id : was.id ≡ k.message.id = d.id_is ∙ ap (λ (m : Message). m.id) (sym answer) ∙ sym k.id_is in
      let began = d.started in
      let moment = ap (λ (p : Position). p.action.observation.now) position in
      let soon = k.soon in
      let test : is_delivered_as k.message.id now (Delivering was.bytes was.id was.timer) ≡ true = and_from (was.id == k.message.id) (nat_lt (now - was.timer.started) 247000) (eq-eqb was.id k.message.id id) (lt-ltb (now - was.timer.started) 247000 (omega (arith, soon, began, moment))) in
      and_from (same_endpoint v.1.client source) (is_delivered_as k.message.id now v.1.state) ((Tells-both same_endpoint Tells-endpoint v.1.client source).1 (to ∙ sym (closing-read k).0)) (ap (is_delivered_as k.message.id now) was.state_is ∙ test)

  -- so a message that is ignored closes no waiter
  pub not-closed : IsNothing w now source bytes → (n : ℕ) → Closes w.setting history now n (arrival source bytes) → ⊥
  not-closed none n k = in_table (served-there w history c n delivering k.service)
    where
      test : Numbered Waiter → Bool
      test v = waiters.was_sent_as source k.message.id now v.1

      missed : (o : Option (Numbered Waiter)) → find test w.waiters ≡ o → find test w.waiters ≡ None
      missed None is = is
      missed (Some v) is = absurd ((none k.message (closing-read k).1).answer v.0 (record { bare = closing-bare k; first = ap (option_map (λ (u : Numbered Waiter). u.0)) is }))

      in_table : HasNumber n w.waiters → ⊥
      in_table has =
          let f = at-number (λ v. (IsWaiterOf w.setting history v × Has v w.waiters) × (test v ≡ false)) n w.waiters has (All-both (λ v. IsWaiterOf w.setting history v × Has v w.waiters) (λ v. test v ≡ false) w.waiters (All-there (IsWaiterOf w.setting history) w.waiters c.waiters) (none-found test w.waiters (missed (find test w.waiters) refl))) in
          let e : true ≡ false = sym (closed-passes k f.0 f.1 f.2.0.0 f.2.0.1) ∙ f.2.1 in
          absurd cc
