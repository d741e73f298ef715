-- Forwarding a request preserves what is carried.
use Rattle.std.proofs.Common.{◌≡◌, inl, ℕ, ◌+◌, ◌<◌, ◌≤◌, List, [], ◌∷◌, Bool, true, false, cond, Option, Some, None, refl, sym, ap, ◌∙◌, subst, arith}
use Rattle.std.specs.Prelude.{◌&&◌, is_some, IfSome}
use Rattle.coap_message.specs.Spelling.{Spells, spelling, with_id}
use Rattle.coap_message.proofs.Spellings.{spelled}
use Rattle.coap_message.specs.Message.{Message}
use Rattle.coap_option.specs.declared.side.Side.TheVariants.{Request}
use Rattle.coap_option.specs.Screening.{first_refused}
use Rattle.coap_option.specs.Selection.{tags_of}
use Rattle.coap_store.specs.declared.key.CacheKey.{CacheKey}
use Rattle.coap_endpoint.specs.declared.endpoint.Endpoint.{Endpoint}
use Rattle.coap_endpoint.specs.Endpoint.{same_endpoint}
use Rattle.coap_endpoint.proofs.Equality.{Tells-endpoint}
use Rattle.coap_endpoint.proofs.Lists.{All-weaken}
use Rattle.coap_pending.specs.declared.exchange.Exchange.{Exchange}
use Rattle.coap_pending.specs.declared.exchange.ExchangeState.{ExchangeState}
use Rattle.coap_pending.specs.declared.exchange.ExchangeState.TheVariants.{Queued}
use Rattle.coap_pending.specs.declared.exchange.Sending.{Sending}
use Rattle.coap_pending.specs.Exchanges.{is_queued, is_queued_state, is_sent_state, is_sent_to, deadline, sent}
use Rattle.coap_pending.specs.Ids.{called}
use Rattle.coap_pending.specs.Table.{item_at, changed_at, count, passes}
use Rattle.coap_pending.specs.Timers.{started}
use Rattle.coap_pending.specs.Waiters.{is_waiting}
use Rattle.coap_pending.proofs.Counts.{one_if, count-moved}
use Rattle.coap_forward.specs.Forms.{forwarded, tag_for}
use Rattle.coap_forward.specs.Gaps.{given}
use Rattle.coap_forward.specs.Messages.{is_get, token_of}
use Rattle.coap_forward.proofs.Forms.{IsTag, short-tag, forwarded-is, with_id-forwarded, length-with_id}
use Rattle.coap_forward.proofs.Tagging.{tag_for-is, tag_for-other, tags-forwarded}
use Rattle.coap_forward.proofs.Tokens.{length-token_of}
use Rattle.coap_model.specs.declared.due.DueItem.TheVariants.{OfExchange}
use Rattle.coap_model.specs.Events.{tick}
use Rattle.coap_model.specs.State.{State, next_id}
use Rattle.coap_model.specs.Ticks.{sends}
use Rattle.coap_model.specs.Runs.{observation_of}
use Rattle.coap_model.specs.History.{Observation, moves, Action}
use Rattle.coap_model.specs.Standing as stages
use Rattle.coap_model.specs.Schedules.{IsSchedule, sends_by}
use Rattle.coap_model.specs.Changed.{IsTold}
use Rattle.coap_model.specs.Cached.{Cached, kept_for, copied}
use Rattle.coap_model.proofs.MarksAndTaints.{newest-unchanged}
use Rattle.coap_model.specs.Carries.{IsTimer, AreOfBytes, IsState, form_id, Bears}
use Rattle.coap_model.proofs.DueByHistory.{acting}
use Rattle.coap_model.proofs.Frames.{same_act-self, sends-grow, schedules_with}
use Rattle.coap_model.proofs.GivenIds.{ids-given, room-called}
use Rattle.coap_model.proofs.Keys.{key-forwarded}
use Rattle.coap_model.proofs.Lists.{Has, Has-all}
use Rattle.coap_model.proofs.CaseExchangeChanged.{others-quiet, keeps_moving}
use Rattle.coap_model.proofs.Positions.{here, doing, opened-later}
use Rattle.coap_model.proofs.CaseQuiet.{remembered-still}
use Rattle.coap_model.proofs.CaseReplied.{id-same}
use Rattle.coap_model.proofs.Rules.{IsTurnOf}
use Rattle.coap_model.proofs.NumbersAndStages.{staged-seen}
use Rattle.coap_model.proofs.Stores.{store-otherwise}
use Rattle.coap_model.proofs.Tables.{one-item}
use Rattle.coap_model.proofs.Turns.{turn-there, turn-exchange, turn-in_time, turn-few, turn-to_send}
use Rattle.coap_model.proofs.Verdicts.{askable}

-- ---- timers

-- a timer that was started now is that of one transmission
started-is : (e : Observation) → IsTimer (started e.now e.draw) (e ∷ [])
started-is e = (refl, refl, omega arith, refl)

-- ---- what may be renewed

-- a forwarded GET has only the proxy's tag, and may renew the response that it has a copy of
sent-copy : (token : List ℕ) (key : CacheKey) (former : List Cached) (tag : Option (List ℕ)) (m : Message) (id : ℕ) → is_get m.code ≡ true → first_refused Request m.options ≡ None → IfSome tag IsTag → cond (is_some tag) (kept_for key former) None ≡ copied (tags_of (forwarded token key.target tag m id)) key former
sent-copy token key former tag m id get screened is = go tag ∙ sym (ap (λ (ts : List (List ℕ)). copied ts key former) (tags-forwarded token key.target tag m id get screened is))
  where
    go : (o : Option (List ℕ)) → cond (is_some o) (kept_for key former) None ≡ copied (given o) key former
    go None = refl
    go (Some v) = refl

-- ---- the rule

-- forwarding a request preserves what is carried
pub keeps_forwarding : (w : State) (history : List Action) (c : Bears history w) → (now draw at number : ℕ) (x : Exchange) → w.last ≤ now → IsTurnOf w now at number x → x.state ≡ Queued → now < deadline w.setting.limits.exchange_ms x
    → Bears (doing (moves number) (observation_of now draw tick (sends w now draw number x)) ∷ history) (sends w now draw number x).state
keeps_forwarding w history c now draw at number x onward turn queued early =
    let e = doing (moves number) (observation_of now draw tick (sends w now draw number x)) in
    let p = here history e in
    let salt = w.setting.salt in
    let id = next_id w in
    let f = turn-exchange w history c now at number x turn in
    let asked = f.opened.request in
    let may = askable w.setting.routes asked c.routes x.key f.verdict in
    let state : IsState w.setting history (number, x) Queued = subst (IsState w.setting history (number, x)) queued f.state in
    let kept = kept_for x.key f.former in
    let tag = tag_for w.setting.limits.datagram x.key.target asked kept in
    let tag_is = tag_for-is w.setting.limits.datagram x.key.target asked kept in
    let token = token_of salt number in
    let request = forwarded token x.key.target tag asked id in
    let is = forwarded-is token x.key.target tag asked id may.sound f.opened.asked.brings.spells.message.options may.screened may.method (short-tag tag tag_is) (omega (arith, length-token_of salt number)) in
    let form : x.form ≡ spelling (forwarded token x.key.target tag asked 0) = f.form_is ∙ ap (λ (o : Option Sending). spelling (forwarded token x.key.target tag asked (form_id o))) state.unsent in
    let bytes_are : with_id id x.form ≡ spelling request = ap (with_id id) form ∙ with_id-forwarded id token x.key.target tag asked in
    let spells : Spells (with_id id x.form) request = subst (λ (b : List ℕ). Spells b request) (sym bytes_are) (spelled request is) in
    let sending : Sending = record { asked = w.events; id = id; timer = started now draw } in
    let grown : sends_by (moves number) (e ∷ history) ≡ e.observation ∷ [] = sends-grow (moves number) history e (same_act-self number) refl ∙ ap (λ (es : List Observation). e.observation ∷ es) state.no_sends in
    let passes_queued : passes is_queued (item_at number w.exchanges) ≡ true = ap (passes is_queued) turn.found ∙ ap is_queued_state queued in
    let passes_sent : passes (λ a. is_queued (sent sending a)) (item_at number w.exchanges) ≡ false = ap (passes (λ a. is_queued (sent sending a))) turn.found in
    let fewer : count is_queued (changed_at number (sent sending) w.exchanges) + 1 ≡ count is_queued w.exchanges =
    less (count is_queued (changed_at number (sent sending) w.exchanges)) (count is_queued w.exchanges) _ _ passes_queued passes_sent (count-moved is_queued number 0 (sent sending) w.exchanges c.whole.rising) in
    let within = c.within.ids now onward in
    keeps_moving w history c e w.exchanges number x (sent sending) (called now w.ids) w.store w.con_records w.non_records
    (record { act = refl; opens = refl; admits = refl; stands = λ standing. refl })
    (others-quiet w history c e number refl refl) turn.found onward
    (record {
      opened = opened-later e f.opened;
      client_is = f.client_is;
      admitted = f.admitted;
      verdict = f.verdict;
      method = f.method;
      former = f.former;
      was_cache = f.was_cache;
      form_is = bytes_are;
      form_short = let short = f.form_short in omega (arith, short, length-with_id id x.form);
      copy_is = f.copy_is;
      state = record {
        sending = sending;
        sending_is = refl;
        asked = record {
          asking = p;
          was_asked = inl refl;
          asks = record { sends = record { act = refl; outcome = refl; to = x.key.target.at; sent = refl; message = request; spells = spells; token = refl }; first = state.never_sent };
          asked_key = key-forwarded token x.key.target tag asked id may.sound may.screened tag_is (tag_for-other w.setting.limits.datagram x.key.target asked kept) ∙ sym may.key_is;
          to = refl;
          id_is = refl;
          number = c.clock.events;
          timer = subst (IsTimer (started now draw)) (sym grown) (started-is e.observation);
          bytes = subst (AreOfBytes x.key.target.at (with_id id x.form)) (sym grown) ((refl, refl), tt);
        };
        method = sym f.method;
        former = f.former;
        was_cache = record { opening = f.opened.opening; was_opened = f.opened.was_opened; opens = f.opened.opens; is_cache = f.was_cache };
        copy_is = λ get. f.copy_is ∙ sent-copy token x.key f.former tag asked id (sym f.method ∙ get) may.screened tag_is;
        told = subst (λ (b : Bool). IsTold b w.setting x.key.target p (e ∷ history)) (sym state.untainted) (newest-unchanged w.setting x.key.target history e refl);
        unended = ((λ h. let g = h.outcome in cc), state.unended);
      };
    })
    (staged-seen number (sent sending) (stages.sent x.key.target.at) w.exchanges (λ y. refl) (All-weaken (λ y. Has y w.exchanges) (λ y. y.0 ≡ number → stages.sent y.1.key.target.at ≡ stages.sent x.key.target.at) w.exchanges (λ y there same. ap (λ (a : Exchange). stages.sent a.key.target.at) (one-item 0 w.exchanges y (number, x) c.whole.rising there (turn-there w history c now at number x turn) same)) (Has-all w.exchanges)))
    (ids-given history w _ e c.clock c.ids onward refl refl refl (omega arith) (record { gives = refl; message = request; spells = spells; id_is = id-same w history c }))
    (schedules_with history e (subst IsSchedule (sym grown) (record { few = omega arith; spaced = tt })) c.schedules)
    (λ to. paced to sending (count-moved (is_sent_to to) number 0 (sent sending) w.exchanges c.whole.rising) (same_endpoint x.key.target.at to) refl (ap (passes (is_sent_to to)) turn.found ∙ ap (λ (s : ExchangeState). is_sent_state s && same_endpoint x.key.target.at to) queued) (ap (passes (λ a. is_sent_to to (sent sending a))) turn.found))
    (λ n later. room-called w.ids now (count is_waiting w.waiters + count is_queued (changed_at number (sent sending) w.exchanges)) (omega arith) n)
    (store-otherwise w.setting history w.store e refl refl c.store)
    (remembered-still w history c e onward (λ k. refl)) (
      record {
        exchange = number;
        act = refl;
        acting = acting w history c now (OfExchange at number) turn.due e refl refl refl;
        to_send = turn-to_send w history c now at number x turn queued early;
        in_time = turn-in_time w history c now at number x turn early;
        former = f.former;
        is_cache = f.was_cache;
        id = id;
        tells = record { sent = refl; spells = spells };
      },
      c.past,
    )
  where
    less : (a b : ℕ) (before after : Bool) → before ≡ true → after ≡ false → a + one_if before ≡ b + one_if after → a + 1 ≡ b
    less a b before after yes_before no_after e = let one : one_if before ≡ 1 = ap one_if yes_before in let none : one_if after ≡ 0 = ap one_if no_after in omega arith

    paced : (to : Endpoint) (sending : Sending) → count (is_sent_to to) (changed_at number (sent sending) w.exchanges) + one_if (passes (is_sent_to to) (item_at number w.exchanges)) ≡ count (is_sent_to to) w.exchanges + one_if (passes (λ a. is_sent_to to (sent sending a)) (item_at number w.exchanges))
        → (b : Bool) → same_endpoint x.key.target.at to ≡ b → passes (is_sent_to to) (item_at number w.exchanges) ≡ false → passes (λ a. is_sent_to to (sent sending a)) (item_at number w.exchanges) ≡ same_endpoint x.key.target.at to → count (is_sent_to to) (changed_at number (sent sending) w.exchanges) ≤ w.setting.limits.nstart
    paced to sending moved true same before after =
        let one : one_if (passes (λ a. is_sent_to to (sent sending a)) (item_at number w.exchanges)) ≡ 1 = ap one_if (after ∙ same) in
        let none : one_if (passes (is_sent_to to) (item_at number w.exchanges)) ≡ 0 = ap one_if before in
        let few : count (is_sent_to to) w.exchanges < w.setting.limits.nstart = subst (λ (t : Endpoint). count (is_sent_to t) w.exchanges < w.setting.limits.nstart) (Tells-endpoint.only x.key.target.at to same) (turn-few w history c now at number x turn queued early) in
        omega arith
    paced to sending moved false same before after =
        let none : one_if (passes (λ a. is_sent_to to (sent sending a)) (item_at number w.exchanges)) ≡ 0 = ap one_if (after ∙ same) in
        let pace = c.within.pace to in
        omega arith
