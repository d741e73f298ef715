-- An answer that arrives preserves what is carried.
use Rattle.std.specs.Prelude.{◌||◌, ◌&&◌}
use Rattle.std.proofs.Common.{◌≡◌, inl, ℕ, Bool, ◌≤◌, true, false, List, [], ◌∷◌, Option, Some, None, refl, sym, ap, ◌∙◌, subst, arith}
use Rattle.coap_message.specs.declared.kind.Kind.TheVariants.{Con, Non}
use Rattle.coap_message.specs.Uint.{IsBytes}
use Rattle.coap_message.specs.Message.{Message}
use Rattle.coap_message.specs.Spelling.{spelling}
use Rattle.coap_message.proofs.Spellings.{spelled}
use Rattle.coap_endpoint.specs.declared.endpoint.Endpoint.{Endpoint}
use Rattle.coap_endpoint.proofs.Lists.{All-weaken}
use Rattle.coap_dedup.specs.Records.{Records}
use Rattle.coap_pending.specs.declared.exchange.Exchange.{Exchange}
use Rattle.coap_pending.specs.Exchanges.{acked, answered, is_queued, is_sent_to}
use Rattle.coap_pending.specs.Table.{Numbered, item_at, passes}
use Rattle.coap_pending.proofs.Counts.{one_if, count-moved}
use Rattle.coap_model.specs.declared.deed.Deed.TheVariants as deeds
use Rattle.coap_model.specs.Events.{arrival}
use Rattle.coap_forward.specs.Messages.{is_con, is_ack, acknowledgement}
use Rattle.coap_store.specs.Entries.{Entry}
use Rattle.coap_model.specs.declared.report.Outcome.TheVariants.{Answered}
use Rattle.coap_model.specs.declared.report.Storing.{Storing}
use Rattle.coap_model.specs.Justified.{Accepts, IsNew, Acknowledges, to_acknowledge, to_reset, a_request, IsAnswer, got}
use Rattle.coap_model.specs.State.{State, silent, says, known_of, has_record_room, remembers}
use Rattle.coap_model.specs.Step.{message_in}
use Rattle.coap_model.specs.Empties.{acknowledges}
use Rattle.coap_model.specs.History.{moves, Action, Brings, last_of}
use Rattle.coap_model.specs.Standing as stage
use Rattle.coap_model.specs.Runs.{observation_of}
use Rattle.coap_model.specs.Carries.{AreRemembered, Bears}
use Rattle.coap_model.proofs.AwaitedByHistory.{awaited-by, ack-is, empty-is, answer-here, about-here, sent-unsettled, from-here}
use Rattle.coap_model.proofs.Frames.{is_flying, asked_frame, sent_frame, sends-quiet, schedules_frame}
use Rattle.coap_model.proofs.AnswerMoments.{got-is}
use Rattle.coap_model.proofs.GivenIds.{ids-kept, ids-differ}
use Rattle.coap_model.proofs.Lists.{Has, Has-all}
use Rattle.coap_model.proofs.CaseExchangeChanged.{moved_state, AreOthers, others-quiet, others-changed, found-tainted, count-tainted, keeps_moving}
use Rattle.coap_model.proofs.Received.{gets, result-is, stored-then, answered-so}
use Rattle.coap_model.proofs.MarksAndTaints.{told-stays}
use Rattle.coap_model.specs.Answers.{tainted_all, answer_for}
use Rattle.coap_forward.specs.Changes.{changed_by, concerns}
use Rattle.coap_store.specs.declared.key.CacheKey.{CacheKey}
use Rattle.coap_model.specs.MessageIds.{IdsDiffer}
use Rattle.coap_model.proofs.OneMeant.{one-meant}
use Rattle.coap_model.proofs.Positions.{here, doing, opened-later, one-brought}
use Rattle.coap_model.proofs.CaseQuiet.{remembered-still, room-still}
use Rattle.coap_model.proofs.RecordsOfHistory.{remembered-on, record-new, now-remembered, answer-leaves}
use Rattle.coap_model.proofs.CaseResentOrGivenUp.{ended-seen, ended-room, ended-pace}
use Rattle.coap_model.proofs.Rules.{Recorded, IsAbout, IsAnswerFor, recorded-kind, answered_state, changed_state, IsStoring}
use Rattle.coap_model.proofs.NumbersAndStages.{staged-seen}
use Rattle.coap_model.proofs.Sendings.{was-sent}
use Rattle.coap_model.proofs.Encodings.{message_in-is, acknowledgement-is, acknowledgement-short}
use Rattle.coap_model.proofs.Acceptances.{silent-up, told-up}
use Rattle.coap_model.proofs.Stores.{store-otherwise}

-- ---- one request

-- Message IDs aren't reused too soon
pub differ : (w : State) (history : List Action) → Bears history w → IdsDiffer history
differ w history c = ids-differ w.setting.first_id history c.ids.are_ids c.ids.windows c.clock.in_order

-- the last moment isn't later than now
pub last-now : (w : State) (history : List Action) → Bears history w → (now : ℕ) → w.last ≤ now → last_of history ≤ now
last-now w history c now onward = let h = c.clock.last in omega (arith, h, onward)

-- ---- the answer

-- an answer that arrives preserves what is carried, whatever is sent immediately and remembered
module _ (w : State) (history : List Action) (c : Bears history w) (now draw : ℕ) (source : Endpoint) (bytes : List ℕ) (grown : Bool) (m : Message) (x : Numbered Exchange) (storing : Storing) (store : List Entry) (send : Option Endpoint) (told : List ℕ) (con non : Records) where
  abbrev answer_action : Action
  answer_action = doing (moves x.0) (record { now = now; draw = draw; event = arrival source bytes; report = record { send = send; outcome = Answered storing }; bytes = told })

  -- the exchanges, after the answer's changes are tainted
  abbrev others : List (Numbered Exchange)
  others = tainted_all (changed_by x.1.key.target m) w.exchanges

  keeps-answer : w.last ≤ now → IsBytes bytes → message_in w.setting.limits.datagram bytes ≡ Some m → IsAnswerFor w now source m x → IsStoring (changed_state w m x) now grown x (answer_for w now m x.1) storing store
      → Accepts m.kind source m.id answer_action.observation
      → (m.kind ≡ Con → IsNew w.setting history now source m)
      → AreRemembered w.setting (answer_action ∷ history) Con con × AreRemembered w.setting (answer_action ∷ history) Non non
      → Bears (answer_action ∷ history) (moved_state w now others x.0 (answered (answer_for w now m x.1)) w.ids store con non)
  keeps-answer onward fits read for stored taken new remembered =
      let result = answer_for w now m x.1 in
      let e = answer_action in
      let a = answer-here w history c now source m x for in
      let h = a.0 in
      let f = h.exchange in
      let flight = h.flight in
      let was = flight.asked in
      let came = message_in-is w.setting.limits.datagram bytes m fits read in
      let from = from-here w history c now source m x h in
      let brings : Brings w.setting.limits.datagram was.asks.sends.to m e.observation.event = record { bytes = bytes; came = ap (λ (to : Endpoint). arrival to bytes) from; spells = came.0; short = came.1 } in
      let g = gets w history c now m x e refl flight refl refl brings a.1 fits in
      let is = result-is w history c now m x e refl flight refl refl brings a.1 fits in
      let answer : IsAnswer w.setting history e = record {
        exchange = x.0;
        gets = g;
        first = flight.unended;
        unsettled = a.2;
        only = λ reset other also. one-meant w.setting history now (arrival source bytes) other (moves x.0) (differ w history c) c.clock.in_order (last-now w history c now onward) also (to_reset x.0 (awaited-by w history c now source m x bytes fits read for) refl (sym (ap (λ (k : Message). k.kind) (one-brought brings (awaited-by w history c now source m x bytes fits read for).meets.brings).1) ∙ reset));
        new = λ con. subst (λ (to : Endpoint). IsNew w.setting history now to m) from (new con);
        accepts = subst (λ (to : Endpoint). Accepts m.kind to m.id e.observation) from taken;
      } in
      let changed = subst (λ (k : CacheKey). AreOthers w history e x.0 (tainted_all (changed_by k.target m) w.exchanges)) was.asked_key (others-changed w history c e x.0 g) in
      let taint = x.1.tainted || (is_flying x.1.state && concerns (changed_by x.1.key.target m) x.1.key.target) in
      keeps_moving w history c e others x.0 (record x.1 { tainted = taint }) (answered result) w.ids store con non
      (record { act = refl; opens = refl; admits = refl; stands = λ standing. refl })
      changed (found-tainted (changed_by x.1.key.target m) x.0 w.exchanges x.1 h.found) onward
      (record {
        opened = opened-later e f.opened;
        client_is = f.client_is;
        admitted = f.admitted;
        verdict = f.verdict;
        method = f.method;
        former = f.former;
        was_cache = f.was_cache;
        form_is = f.form_is;
        form_short = f.form_short;
        copy_is = f.copy_is;
        state = record {
          ending = here history e;
          was_ended = inl refl;
          ends = record { act = refl; outcome = refl };
          with = got g flight.former flight.was_cache was.asked_key is;
          got = got-is w.setting.limits.datagram now x.1.is_get _ m;
          was_sent = sent_frame w.setting history x.0 x.1.key x.1.form x.1.sending e (sends-quiet (moves x.0) history e refl) (was-sent w.setting history x x.1.state f.state);
        };
      })
      (ended-seen x.0 result others)
      (ids-kept history w _ e c.clock c.ids onward refl refl refl)
      (schedules_frame history e refl c.schedules)
      (λ to. ended-pace w history c x.0 result others changed.rising to (count-tainted (is_sent_to to) (λ b t. refl) (changed_by x.1.key.target m) w.exchanges))
      (λ later after. ended-room w history c now x.0 result others changed.rising (count-tainted is_queued (λ b t. refl) (changed_by x.1.key.target m) w.exchanges) onward later after)
      (stored-then w history c now m x e refl flight refl refl brings a.1 fits grown storing store refl stored)
      remembered
      (answered-so w history c now m x e refl flight refl refl brings a.1 fits grown storing store answer stored, c.past)

-- a message that isn't Confirmable and gives an answer preserves what is carried
pub keeps_answering : (w : State) (history : List Action) (c : Bears history w) → (now draw : ℕ) (source : Endpoint) (bytes : List ℕ) (grown : Bool) (m : Message) (x : Numbered Exchange) (storing : Storing) (store : List Entry) → w.last ≤ now → IsBytes bytes → message_in w.setting.limits.datagram bytes ≡ Some m → IsAnswerFor w now source m x → is_con m.kind ≡ false → IsStoring (changed_state w m x) now grown x (answer_for w now m x.1) storing store
    → Bears (doing (moves x.0) (observation_of now draw (arrival source bytes) (silent (deeds.Answered x.0 storing) (answered_state (changed_state w m x) now x.0 (answer_for w now m x.1) store))) ∷ history) (answered_state (changed_state w m x) now x.0 (answer_for w now m x.1) store)
keeps_answering w history c now draw source bytes grown m x storing store onward fits read for other stored =
    let e = doing (moves x.0) (observation_of now draw (arrival source bytes) (silent (deeds.Answered x.0 storing) (answered_state (changed_state w m x) now x.0 (answer_for w now m x.1) store))) in
    let since = last-now w history c now onward in
    keeps-answer w history c now draw source bytes grown m x storing store None [] w.con_records w.non_records onward fits read for stored
    (silent-up m.kind source m.id e.observation other (record { sent = refl; bytes = refl }))
    (λ con. absurd (let both = sym other ∙ ap is_con con in cc)) (
      remembered-on e since (answer-leaves w bytes m Con e source storing fits read other refl refl) c.con_records,
      remembered-on e since (answer-leaves w bytes m Non e source storing fits read other refl refl) c.non_records,
    )

-- and so does a Confirmable one, which is acknowledged and remembered
pub keeps_answering_con : (w : State) (history : List Action) (c : Bears history w) → (now draw : ℕ) (source : Endpoint) (bytes : List ℕ) (grown : Bool) (m : Message) (x : Numbered Exchange) (storing : Storing) (store : List Entry) → w.last ≤ now → IsBytes bytes → Recorded w bytes m → IsAnswerFor w now source m x → is_con m.kind ≡ true → known_of w now source m ≡ None → has_record_room w now source m.kind ≡ true → IsStoring (changed_state w m x) now grown x (answer_for w now m x.1) storing store
    → Bears (doing (moves x.0) (observation_of now draw (arrival source bytes) (says (deeds.Answered x.0 storing) source (acknowledgement m.id) (answered_state (changed_state w m x) now x.0 (answer_for w now m x.1) store))) ∷ history) (remembers now source m (says (deeds.Answered x.0 storing) source (acknowledgement m.id) (answered_state (changed_state w m x) now x.0 (answer_for w now m x.1) store))).state
keeps_answering_con w history c now draw source bytes grown m x storing store onward fits recorded for con unknown room stored =
    let s = says (deeds.Answered x.0 storing) source (acknowledgement m.id) (answered_state (changed_state w m x) now x.0 (answer_for w now m x.1) store) in
    let e = doing (moves x.0) (observation_of now draw (arrival source bytes) s) in
    let kind = recorded-kind m recorded.recorded in
    keeps-answer w history c now draw source bytes grown m x storing store (Some source) (spelling (acknowledgement m.id)) _ _ onward fits recorded.read for stored
    (told-up m.kind source m.id e.observation con (record { sent = refl; spells = spelled (acknowledgement m.id) (acknowledgement-is m.id) }))
    (λ is. record-new w history c now source bytes m onward kind unknown room)
    (now-remembered w history c now source bytes m onward draw (moves x.0) s fits recorded.read kind unknown room con (λ most wide long. omega (arith, wide, acknowledgement-short m.id)))

-- ---- an acknowledgement

-- acknowledging the request of an exchange preserves what is carried
pub keeps_acknowledging : (w : State) (history : List Action) (c : Bears history w) → (now draw : ℕ) (source : Endpoint) (bytes : List ℕ) (m : Message) (x : Numbered Exchange) → w.last ≤ now → IsBytes bytes → message_in w.setting.limits.datagram bytes ≡ Some m → IsAbout w now source m x → is_ack m.kind ≡ true
    → Bears (doing (moves x.0) (observation_of now draw (arrival source bytes) (acknowledges w now x.0)) ∷ history) (acknowledges w now x.0).state
keeps_acknowledging w history c now draw source bytes m x onward fits read about ack =
    let e = doing (moves x.0) (observation_of now draw (arrival source bytes) (acknowledges w now x.0)) in
    let a = about-here w history c now source m x about in
    let h = a.here in
    let f = h.exchange in
    let flight = h.flight in
    let was = flight.asked in
    let came = message_in-is w.setting.limits.datagram bytes m fits read in
    let from = from-here w history c now source m x h in
    let quiet = sends-quiet (moves x.0) history e refl in
    let acknowledges_it : Acknowledges w.setting history now x.0 (arrival source bytes) = record {
      asking = was.asking;
      was_asked = was.was_asked;
      asks = was.asks;
      unsettled = sent-unsettled w history c now source m x a;
      message = m;
      brings = record { bytes = bytes; came = ap (λ (to : Endpoint). arrival to bytes) from; spells = came.0; short = came.1 };
      kind = ack-is m.kind ack;
      empty = empty-is m about.bare;
      id_is = sym a.id_is ∙ was.id_is;
    } in
    keeps_moving w history c e w.exchanges x.0 x.1 acked w.ids w.store w.con_records w.non_records
    (record { act = refl; opens = refl; admits = refl; stands = λ standing. refl })
    (others-quiet w history c e x.0 refl refl) h.found onward
    (record {
      opened = opened-later e f.opened;
      client_is = f.client_is;
      admitted = f.admitted;
      verdict = f.verdict;
      method = f.method;
      former = f.former;
      was_cache = f.was_cache;
      form_is = f.form_is;
      form_short = f.form_short;
      copy_is = f.copy_is;
      state = record { sending = flight.sending; sending_is = flight.sending_is; asked = asked_frame e quiet was; method = flight.method; former = flight.former; was_cache = flight.was_cache; copy_is = flight.copy_is; told = told-stays x.1.tainted w.setting x.1.key.target was.asking history e refl flight.told; unended = ((λ ended. let k = ended.outcome in absurd cc), flight.unended) };
    })
    (staged-seen x.0 acked stage.acked w.exchanges (λ y. refl) (All-weaken (λ y. Has y w.exchanges) (λ y. y.0 ≡ x.0 → stage.acked ≡ stage.acked) w.exchanges (λ y there same. refl) (Has-all w.exchanges)))
    (ids-kept history w _ e c.clock c.ids onward refl refl refl)
    (schedules_frame history e refl c.schedules)
    (λ to. let pace = c.within.pace to in let moved = count-moved (is_sent_to to) x.0 0 acked w.exchanges c.whole.rising in let none = unsent-acked (is_sent_to to) (λ b. refl) (item_at x.0 w.exchanges) in omega arith)
    (λ later after. let room = room-still w history c now onward later after in let moved = count-moved is_queued x.0 0 acked w.exchanges c.whole.rising in let none = unsent-acked is_queued (λ b. refl) (item_at x.0 w.exchanges) in omega arith)
    (store-otherwise w.setting history w.store e refl refl c.store)
    (remembered-still w history c e onward (λ k. refl)) (
      record {
        settles = a_request x.0 refl acknowledges_it;
        only = λ other also. one-meant w.setting history now (arrival source bytes) other (moves x.0) (differ w history c) c.clock.in_order (last-now w history c now onward) also (to_acknowledge x.0 refl acknowledges_it);
        silent = record { sent = refl; bytes = refl };
      },
      c.past,
    )
  where
    unsent-acked : (test : Exchange → Bool) → ((b : Exchange) → test (acked b) ≡ false) → (o : Option Exchange) → one_if (passes (λ b. test (acked b)) o) ≡ 0
    unsent-acked test none None = refl
    unsent-acked test none (Some b) = ap one_if (none b)
