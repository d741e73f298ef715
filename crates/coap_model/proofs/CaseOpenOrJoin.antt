-- Joining an exchange, and opening one, preserve what is carried.
use Rattle.std.proofs.Common.{◌≡◌, ◌≢◌, inl, ⊎_elim, ℕ, ◌+◌, ◌<◌, ◌≤◌, Bool, true, false, cond, Option, Some, None, List, [], ◌∷◌, ◌++◌, length, map, length-append, refl, sym, ap, ◌∙◌, subst, arith}
use Rattle.std.specs.Prelude.{◌&&◌, is_some, option_map}
use Rattle.std.specs.List.{AllByRecursion}
use Rattle.std.proofs.lemmas.Bool.{leb-true, and_parts, eq-eqb}
use Rattle.std.proofs.lemmas.List.{map-append}
use Rattle.coap_message.specs.Message.{Message}
use Rattle.coap_message.specs.Spelling.{spelling}
use Rattle.coap_endpoint.specs.declared.endpoint.Endpoint.{Endpoint}
use Rattle.coap_endpoint.specs.declared.target.Target.{Target}
use Rattle.coap_store.specs.declared.key.CacheKey.{CacheKey}
use Rattle.coap_store.specs.declared.stored.Stored.{Stored}
use Rattle.coap_store.specs.Entries.{Entry, entry_key}
use Rattle.coap_store.specs.Lists.{of_key}
use Rattle.coap_store.specs.Renewing.{tag_of}
use Rattle.coap_store.specs.Showing.{is_content}
use Rattle.coap_endpoint.proofs.Lists.{All-append, All-weaken}
use Rattle.coap_pending.specs.declared.exchange.Exchange.{Exchange}
use Rattle.coap_pending.specs.declared.waiter.Waiter.{Waiter}
use Rattle.coap_pending.specs.declared.waiter.WaiterState.{WaiterState}
use Rattle.coap_pending.specs.declared.waiter.WaiterState.TheVariants.{Waiting, Delivering}
use Rattle.coap_pending.specs.Exchanges.{is_queued, is_sent_to, is_joinable}
use Rattle.coap_pending.specs.Ids.{given_in}
use Rattle.coap_pending.specs.Table.{Numbered, IsRising, count, first_that}
use Rattle.coap_pending.specs.Waiters.{is_waiting, waits_for}
use Rattle.coap_pending.proofs.Counts.{one_if, count-push}
use Rattle.coap_pending.proofs.Tables.{IsRising-push}
use Rattle.coap_forward.specs.Messages.{is_get}
use Rattle.coap_forward.specs.Forms.{forwarded, form_fits, tag_if_fits, tag_to_send, tag_for}
use Rattle.coap_forward.proofs.Tokens.{length-token_of}
use Rattle.coap_forward.proofs.Tagging.{tag_for-other}
use Rattle.coap_model.specs.declared.deed.Deed.TheVariants.{Joined, Opened}
use Rattle.coap_model.specs.Deeds.{held_of}
use Rattle.coap_model.specs.Events.{arrival}
use Rattle.coap_model.specs.Verdicts.{may_ask}
use Rattle.coap_model.specs.Justified.{verdict_on}
use Rattle.coap_model.specs.State.{State, remembers, reserved, has_ids, has_exchange_room, has_waiter_room, has_room_to_join, has_room_to_open}
use Rattle.coap_model.specs.Requests.{new_exchange, new_waiter, next_token, tag_carried, copy_of}
use Rattle.coap_model.specs.Cached.{kept_for}
use Rattle.coap_model.specs.History.{Act, admits, moves, serves, Action, Somewhere, Never, admits_one, opened_in, admitted_in, last_of, Opens, Admits, Ends, Serves, IsRequestOf, WasOpened}
use Rattle.coap_model.specs.Standing as stages
use Rattle.coap_model.specs.Standing.{standing_in}
use Rattle.coap_model.specs.Runs.{observation_of}
use Rattle.coap_model.specs.Carries.{HasNumber, HasExchange, stage_seen, standing_seen, copy_for, IsExchangeOf, IsWaiterIn, IsWaiterOf, AreUnused, Bears}
use Rattle.coap_model.proofs.Frames.{clock_frame, numbers_frame, opened-before, exchanges_frame, waiters_frame, unused_frame, schedules_frame, sends-stay}
use Rattle.coap_model.proofs.GivenIds.{ids-kept, given-later}
use Rattle.coap_model.proofs.AbsentFromHistory.{missed, joinable-found, unanswered}
use Rattle.coap_model.proofs.Positions.{here, doing, opened-number, opened-later, admitted-number}
use Rattle.coap_model.proofs.RecordsOfHistory.{first-new, first-remembered}
use Rattle.coap_model.proofs.CaseReplied.{request-came}
use Rattle.coap_model.proofs.CountsAndRoom.{join-there, room-there}
use Rattle.coap_model.proofs.Rules.{IsFirst, verdict_in, fits_in, IsMissed, IsUnanswered, IsTakenUp, sending, joined_state, opened_state, held_for}
use Rattle.coap_model.proofs.JoinedTests.{both-below}
use Rattle.coap_model.proofs.Stores.{store-otherwise, stored-kept}
use Rattle.coap_model.proofs.Acceptances.{taken-up, taken-short}
use Rattle.coap_model.proofs.Tables.{HasNumber-push, HasNumber-last, HasExchange-on}
use Rattle.coap_model.proofs.Verdicts.{form-short}

-- ---- numbers

-- the numbers of exchanges are at most the number of exchanges that were opened
exchanges-below : (w : State) (history : List Action) → Bears history w → AllByRecursion (λ x. x.0 < w.opened + 1) w.exchanges
exchanges-below w history c =
    All-weaken (IsExchangeOf w.setting history) (λ x. x.0 < w.opened + 1) w.exchanges (λ x f. let i = opened-number f.opened in let h = c.numbers.opened in omega (arith, i.1)) c.exchanges

-- and so are those of waiters
waiters-below : (w : State) (history : List Action) → Bears history w → AllByRecursion (λ v. v.0 < w.admitted + 1) w.waiters
waiters-below w history c = All-weaken (IsWaiterOf w.setting history) (λ v. v.0 < w.admitted + 1) w.waiters (λ v f. below v f) c.waiters
  where
    below : (v : Numbered Waiter) → IsWaiterOf w.setting history v → v.0 < w.admitted + 1
    below v f = go v.1.state f
      where
        go : (s : WaiterState) → IsWaiterIn w.setting history v s → v.0 < w.admitted + 1
        go (Waiting exchange) g = let i = admitted-number g.admitted in let h = c.numbers.admitted in omega (arith, i.1)
        go (Delivering bytes id timer) g = let i = admitted-number g.admitted in let h = c.numbers.admitted in omega (arith, i.1)

-- ---- a waiter that is admitted

module _ (w : State) (history : List Action) (c : Bears history w) (e : Action) (client : Endpoint) (m : Message) (exchange : ℕ) (act : e.act ≡ admits (admitted_in history + 1) exchange) (outcome : admits_one e.observation.report.outcome ≡ 1) where
  -- the waiters then
  abbrev pub waiters_then : List (Numbered Waiter)
  waiters_then = w.waiters ++ new_waiter w client m exchange ∷ []

  -- its number is the next one
  pub position : w.admitted + 1 ≡ admitted_in history + 1
  position = let h = c.numbers.admitted in omega arith

  -- no exchange changes its state, and no waiter is served
  pub unmoved : (n : ℕ) → e.act ≢ moves n
  unmoved n same = let g = sym act ∙ same in cc

  pub unserved : (n : ℕ) → e.act ≢ serves n
  unserved n same = let g = sym act ∙ same in cc

  -- so unused numbers stay unused
  pub still-unused : AreUnused w.setting (e ∷ history)
  still-unused = unused_frame w.setting history e (λ n above. unmoved n) (λ n above. unserved n) c.unused

  -- the waiter is in the history
  pub waiters-seen : map standing_seen waiters_then ≡ standing_in history ++ record { number = admitted_in history + 1; client = client; service = stages.waits exchange } ∷ []
  waiters-seen = map-append standing_seen w.waiters (new_waiter w client m exchange ∷ []) ∙ (λ i. c.whole.waiters i ++ record { number = position i; client = client; service = stages.waits exchange } ∷ [])

  -- the numbers of the waiters rise
  pub waiters-rise : IsRising 0 waiters_then
  waiters-rise = IsRising-push 0 (w.admitted + 1) w.waiters (new_waiter w client m exchange).1 (omega arith) (waiters-below w history c) c.whole.waiters_rise

  -- a waiter that was admitted and never served is there
  pub waiters-there : (n k : ℕ) → Somewhere (Admits n k) (e ∷ history) → Never (Serves n) (e ∷ history) → HasNumber n waiters_then
  waiters-there n k was never =
      ⊎_elim
      (λ (same : here history e ≡ was.position). let h = subst (Admits n k) (sym same) was.holds in subst (λ (j : ℕ). HasNumber j waiters_then) (position ∙ sym h.number) (HasNumber-last (w.admitted + 1) w.waiters (new_waiter w client m exchange).1))
      (λ there. HasNumber-push n w.waiters (new_waiter w client m exchange ∷ []) (c.whole.unserved n k (record { position = was.position; is_there = there; holds = was.holds }) never.1))
      was.is_there

  -- each waiter waits for an exchange that exists
  pub waiters-awaited : (xs : List (Numbered Exchange)) → HasNumber exchange xs → ((n : ℕ) → HasNumber n w.exchanges → HasNumber n xs) → AllByRecursion (λ u. HasExchange u.1.state xs) waiters_then
  waiters-awaited xs own more =
      All-append (λ u. HasExchange u.1.state xs) w.waiters (new_waiter w client m exchange ∷ [])
      (All-weaken (λ u. HasExchange u.1.state w.exchanges) (λ u. HasExchange u.1.state xs) w.waiters (λ u has. HasExchange-on u.1.state w.exchanges xs more has) c.whole.awaited)
      (own, tt)

  -- and each exchange still has a waiter that waits for it
  pub still-waited : AllByRecursion (λ y. 0 < count (waits_for y.0) waiters_then) w.exchanges
  still-waited =
      All-weaken (λ y. 0 < count (waits_for y.0) w.waiters) (λ y. 0 < count (waits_for y.0) waiters_then) w.exchanges
      (λ y some. let one = count-push (waits_for y.0) w.waiters (new_waiter w client m exchange) in omega arith) c.whole.waited

  -- each waiter is one that the history admitted
  pub waiters-are : IsRequestOf w.setting client m e.observation.event → Never (Ends exchange) history → (opened : WasOpened w.setting (e ∷ history) exchange) → is_get opened.request.code ≡ is_get m.code → verdict_on w.setting opened.request ≡ verdict_on w.setting m → AllByRecursion (IsWaiterOf w.setting (e ∷ history)) waiters_then
  waiters-are asked unended opened method verdict =
      All-append (IsWaiterOf w.setting (e ∷ history)) w.waiters (new_waiter w client m exchange ∷ []) (waiters_frame w.setting history e w.waiters unserved c.waiters) (
        record {
          admitted = record { exchange = exchange; admission = here history e; client = client; request = m; was_admitted = inl refl; admits = record { act = act ∙ ap (λ (n : ℕ). admits n exchange) (sym position); outcome = outcome; number = position }; asked = asked };
          exchange_is = refl;
          client_is = refl;
          kind_is = refl;
          token_is = refl;
          tags_are = refl;
          unended = unended;
          unserved = ((λ h. unserved (w.admitted + 1) h.act), c.unused.waiters (w.admitted + 1) (omega (arith, position)));
          no_sends = sends-stay (serves (w.admitted + 1)) history e (unserved (w.admitted + 1)) ∙ c.unused.deliveries (w.admitted + 1) (omega (arith, position));
          opened = opened;
          method = method;
          verdict = verdict;
        },
        tt,
      )

-- ---- the tag that a request carries

-- a request that fits without a tag fits with the tag that is added
carried-fits : (most : ℕ) (t : Target) (m : Message) (kept : Option Message) → form_fits most t None m ≡ true → form_fits most t (tag_for most t m kept) m ≡ true
carried-fits most t m None e = e
carried-fits most t m (Some r) e = go (is_get m.code && is_content r.code) (tag_of r.options)
  where
    fitting : (tag : List ℕ) (b : Bool) → form_fits most t (Some tag) m ≡ b → form_fits most t (cond b (Some tag) None) m ≡ true
    fitting tag true f = f
    fitting tag false f = e

    go : (b : Bool) (o : Option (List ℕ)) → form_fits most t (cond b (tag_if_fits most t m o) None) m ≡ true
    go true None = e
    go true (Some tag) = fitting tag (form_fits most t (Some tag) m) refl
    go false o = e

-- the response of the copy is the copy of the response
copied-response : (most : ℕ) (t : Target) (m : Message) (stored : Option Stored) → option_map (λ s. s.response) (copy_of most t m stored) ≡ copy_for most t m (option_map (λ s. s.response) stored)
copied-response most t m None = refl
copied-response most t m (Some s) = go (is_some (tag_to_send most t m s.response))
  where
    go : (b : Bool) → option_map (λ s. s.response) (cond b (Some s) None) ≡ cond b (Some s.response) None
    go true = refl
    go false = refl

module _ (w : State) (history : List Action) (c : Bears history w) (key : CacheKey) (m : Message) where
  -- the stored response is the one that is kept
  stored-response : option_map {T = Stored} (λ s. s.response) (option_map (λ (e : Entry). e.1) (of_key entry_key key w.store)) ≡ kept_for key c.store.cached
  stored-response = go (of_key entry_key key w.store) ∙ stored-kept w.setting history w.store c.store.cached key c.store.each
    where
      go : (o : Option Entry) → option_map {T = Stored} (λ s. s.response) (option_map (λ (e : Entry). e.1) o) ≡ option_map (λ (e : Entry). e.1.response) o
      go None = refl
      go (Some e) = refl

  -- so the tag that is carried is the tag of that response
  carried-tag : tag_carried w.setting.limits.datagram key.target m (held_for w key m) ≡ tag_for w.setting.limits.datagram key.target m (kept_for key c.store.cached)
  carried-tag = go (is_get m.code) refl
    where
      go : (b : Bool) → is_get m.code ≡ b → tag_for w.setting.limits.datagram key.target m (option_map (λ s. s.response) (cond b (option_map (λ (e : Entry). e.1) (of_key entry_key key w.store)) None)) ≡ tag_for w.setting.limits.datagram key.target m (kept_for key c.store.cached)
      go true get = ap (tag_for w.setting.limits.datagram key.target m) stored-response
      go false other = sym (tag_for-other w.setting.limits.datagram key.target m (kept_for key c.store.cached) other)

  -- and so is the copy of it
  carried-copy : copy_for w.setting.limits.datagram key.target m (option_map (λ s. s.response) (held_for w key m)) ≡ copy_for w.setting.limits.datagram key.target m (kept_for key c.store.cached)
  carried-copy = go (is_get m.code) refl
    where
      go : (b : Bool) → is_get m.code ≡ b → copy_for w.setting.limits.datagram key.target m (option_map (λ s. s.response) (cond b (option_map (λ (e : Entry). e.1) (of_key entry_key key w.store)) None)) ≡ copy_for w.setting.limits.datagram key.target m (kept_for key c.store.cached)
      go true get = ap (copy_for w.setting.limits.datagram key.target m) stored-response
      go false other = sym (ap (λ (o : Option (List ℕ)). cond (is_some o) (kept_for key c.store.cached) None) (tag_for-other w.setting.limits.datagram key.target m (kept_for key c.store.cached) other))

-- ---- the rules

-- joining an exchange preserves what is carried
pub keeps_joining : (w : State) (history : List Action) (c : Bears history w) → (now draw : ℕ) (client : Endpoint) (bytes : List ℕ) (m : Message) (key : CacheKey) (exchange : ℕ) (send : Option Endpoint) (told : List ℕ) → w.last ≤ now → IsFirst w now client bytes m → is_get m.code ≡ true → verdict_in w m ≡ may_ask key → IsMissed w now key → first_that (is_joinable key) w.exchanges ≡ Some exchange → has_room_to_join w now client ≡ true → IsTakenUp client m send told
    → Bears (doing (admits (admitted_in history + 1) exchange) (observation_of now draw (arrival client bytes) (sending (Joined (w.admitted + 1) exchange) send told (joined_state w now client m exchange))) ∷ history) (remembers now client m (sending (Joined (w.admitted + 1) exchange) send told (joined_state w now client m exchange))).state
keeps_joining w history c now draw client bytes m key exchange send told onward first get verdict none found may up =
    let s = sending (Joined (w.admitted + 1) exchange) send told (joined_state w now client m exchange) in
    let act : Act = admits (admitted_in history + 1) exchange in
    let e = doing act (observation_of now draw (arrival client bytes) s) in
    let came = request-came w client bytes m first.fits first.asked in
    let joined = joinable-found w history c key exchange found in
    let v = new_waiter w client m exchange in
    let remembered = first-remembered w history c now client bytes m onward draw act s first refl (λ most wide long. taken-short client m send told up most wide) in
    let parts = and_parts (has_waiter_room w client) (has_ids 1 w now) may in
    let waiter_room : length w.waiters < w.setting.limits.waiters = (both-below refl refl refl refl parts.0).0 in
    let ids_room = leb-true (given_in now w.ids + reserved w + 1) 32768 parts.1 in
    let longer_waiters = length-append w.waiters (v ∷ []) in
    let more_waiting = count-push is_waiting w.waiters v in
    let since : last_of history ≤ now = let h = c.clock.last in omega arith in
    record {
      routes = c.routes;
      clock = clock_frame c.clock onward refl refl;
      numbers = numbers_frame c.numbers (omega arith) refl;
      ids = ids-kept history w _ e c.clock c.ids onward refl refl refl;
      unused = still-unused w history c e client m exchange refl refl;
      schedules = schedules_frame history e refl c.schedules;
      whole = record {
        exchanges = c.whole.exchanges;
        waiters = waiters-seen w history c e client m exchange refl refl;
        rising = c.whole.rising;
        waiters_rise = waiters-rise w history c e client m exchange refl refl;
        awaited = waiters-awaited w history c e client m exchange refl refl w.exchanges joined.1 (λ n has. has);
        waited = still-waited w history c e client m exchange refl refl;
        unended = λ n was never. c.whole.unended n (opened-before history e n refl was) never.1;
        unserved = waiters-there w history c e client m exchange refl refl;
      };
      exchanges = exchanges_frame w.setting history e w.exchanges refl (unmoved w history c e client m exchange refl refl) c.exchanges;
      waiters = waiters-are w history c e client m exchange refl refl came joined.0.unended (opened-later e joined.0.opened) (joined.0.method ∙ sym get) (joined.0.verdict ∙ sym verdict);
      store = store-otherwise w.setting history w.store e refl refl c.store;
      con_records = remembered.0;
      non_records = remembered.1;
      within = record {
        exchanges = c.within.exchanges;
        waiters = omega arith;
        pace = c.within.pace;
        ids = λ n after. let fewer = given-later w.ids history c.ids.given c.clock.in_order now n since after in omega arith;
      };
      past = (record { exchange = exchange; act = refl; client = client; request = m; key = key; asked = came; method = get; verdict = verdict; miss = missed w history c now key none; joinable = joined.0; new = first-new w history c now client bytes m onward first; room = join-there now client history w c onward may; accepts = taken-up client m send told e.observation refl refl up }, c.past);
    }

-- and so does opening one
pub keeps_opening : (w : State) (history : List Action) (c : Bears history w) → (now draw : ℕ) (client : Endpoint) (bytes : List ℕ) (m : Message) (key : CacheKey) (send : Option Endpoint) (told : List ℕ) → w.last ≤ now → IsFirst w now client bytes m → verdict_in w m ≡ may_ask key → IsUnanswered w now key m → fits_in w key m ≡ true → has_room_to_open w now client ≡ true → IsTakenUp client m send told
    → Bears (doing (admits (admitted_in history + 1) (opened_in history + 1)) (observation_of now draw (arrival client bytes) (sending (Opened (w.admitted + 1) (w.opened + 1) (held_of m (held_for w key m))) send told (opened_state w now client m key (held_for w key m)))) ∷ history) (remembers now client m (sending (Opened (w.admitted + 1) (w.opened + 1) (held_of m (held_for w key m))) send told (opened_state w now client m key (held_for w key m)))).state
keeps_opening w history c now draw client bytes m key send told onward first verdict none short room up =
    let stored = held_for w key m in
    let s = sending (Opened (w.admitted + 1) (w.opened + 1) (held_of m stored)) send told (opened_state w now client m key stored) in
    let act : Act = admits (admitted_in history + 1) (opened_in history + 1) in
    let e = doing act (observation_of now draw (arrival client bytes) s) in
    let came = request-came w client bytes m first.fits first.asked in
    let x = new_exchange w now client m key stored in
    let most = w.setting.limits.datagram in
    let kept = kept_for key c.store.cached in
    let tag : tag_carried most key.target m stored ≡ tag_for most key.target m kept = carried-tag w history c key m in
    let v = new_waiter w client m (w.opened + 1) in
    let remembered = first-remembered w history c now client bytes m onward draw act s first refl (λ most wide long. taken-short client m send told up most wide) in
    let number : w.opened + 1 ≡ opened_in history + 1 = let h = c.numbers.opened in omega arith in
    let is : act ≡ admits (admitted_in history + 1) (w.opened + 1) = ap (λ (n : ℕ). admits (admitted_in history + 1) n) (sym number) in
    let unused = c.unused.exchanges (w.opened + 1) (omega arith) in
    let other = unmoved w history c e client m (w.opened + 1) is refl in
    let parts = and_parts (has_exchange_room w client) (has_waiter_room w client && has_ids 2 w now) room in
    let more = and_parts (has_waiter_room w client) (has_ids 2 w now) parts.1 in
    let exchange_room : length w.exchanges < w.setting.limits.exchanges = (both-below refl refl refl refl parts.0).0 in
    let waiter_room : length w.waiters < w.setting.limits.waiters = (both-below refl refl refl refl more.0).0 in
    let ids_room = leb-true (given_in now w.ids + reserved w + 2) 32768 more.1 in
    let longer_exchanges = length-append w.exchanges (x ∷ []) in
    let longer_waiters = length-append w.waiters (v ∷ []) in
    let more_queued = count-push is_queued w.exchanges x in
    let more_waiting = count-push is_waiting w.waiters v in
    let since : last_of history ≤ now = let h = c.clock.last in omega arith in
    let opened : WasOpened w.setting (e ∷ history) (w.opened + 1) = record { opening = here history e; client = client; request = m; was_opened = inl refl; opens = (refl, number); asked = came } in
    record {
      routes = c.routes;
      clock = clock_frame c.clock onward refl refl;
      numbers = numbers_frame c.numbers refl refl;
      ids = ids-kept history w _ e c.clock c.ids onward refl refl refl;
      unused = still-unused w history c e client m (w.opened + 1) is refl;
      schedules = schedules_frame history e refl c.schedules;
      whole = record {
        exchanges = map-append stage_seen w.exchanges (x ∷ []) ∙ (λ i. c.whole.exchanges i ++ record { number = number i; client = client; stage = stages.queued } ∷ []);
        waiters = waiters-seen w history c e client m (w.opened + 1) is refl ∙ (λ i. standing_in history ++ record { number = admitted_in history + 1; client = client; service = stages.waits (number i) } ∷ []);
        rising = IsRising-push 0 (w.opened + 1) w.exchanges x.1 (omega arith) (exchanges-below w history c) c.whole.rising;
        waiters_rise = waiters-rise w history c e client m (w.opened + 1) is refl;
        awaited = waiters-awaited w history c e client m (w.opened + 1) is refl (w.exchanges ++ x ∷ []) (HasNumber-last (w.opened + 1) w.exchanges x.1) (λ n has. HasNumber-push n w.exchanges (x ∷ []) has);
        waited =
            All-append (λ y. 0 < count (waits_for y.0) (w.waiters ++ v ∷ [])) w.exchanges (x ∷ [])
            (still-waited w history c e client m (w.opened + 1) is refl)
            (let one = count-push (waits_for (w.opened + 1)) w.waiters v in let here : one_if (waits_for (w.opened + 1) v.1) ≡ 1 = ap one_if (eq-eqb (w.opened + 1) (w.opened + 1) refl) in omega arith, tt);
        unended = λ n was never.
            ⊎_elim
            (λ (same : here history e ≡ was.position). let h = subst (Opens n) (sym same) was.holds in subst (λ (k : ℕ). HasNumber k (w.exchanges ++ x ∷ [])) (number ∙ sym h.1) (HasNumber-last (w.opened + 1) w.exchanges x.1))
            (λ there. HasNumber-push n w.exchanges (x ∷ []) (c.whole.unended n (record { position = was.position; is_there = there; holds = was.holds }) never.1))
            was.is_there;
        unserved = waiters-there w history c e client m (w.opened + 1) is refl;
      };
      exchanges =
          All-append (IsExchangeOf w.setting (e ∷ history)) w.exchanges (x ∷ []) (exchanges_frame w.setting history e w.exchanges refl other c.exchanges) (
            record {
              opened = opened;
              client_is = refl;
              admitted = refl;
              verdict = verdict;
              method = refl;
              former = c.store.cached;
              was_cache = c.store.is_cache;
              form_is = ap (λ (o : Option (List ℕ)). spelling (forwarded (next_token w) key.target o m 0)) tag;
              form_short = form-short most key.target (tag_carried most key.target m stored) m (carried-fits most key.target m (option_map (λ s. s.response) stored) short) (next_token w) (length-token_of w.setting.salt (w.opened + 1));
              copy_is = copied-response most key.target m stored ∙ carried-copy w history c key m;
              state = record {
                unsent = refl;
                untainted = refl;
                never_sent = ((λ h. other (w.opened + 1) h.act), unused.0);
                no_sends = sends-stay (moves (w.opened + 1)) history e (other (w.opened + 1)) ∙ c.unused.sends (w.opened + 1) (omega arith);
                unended = ((λ h. other (w.opened + 1) h.act), unused.1);
              };
            },
            tt,
          );
      waiters = waiters-are w history c e client m (w.opened + 1) is refl came unused.1 opened refl refl;
      store = store-otherwise w.setting history w.store e refl refl c.store;
      con_records = remembered.0;
      non_records = remembered.1;
      within = record {
        exchanges = omega arith;
        waiters = omega arith;
        pace = λ to. let pace = c.within.pace to in let one = count-push (is_sent_to to) w.exchanges x in omega arith;
        ids = λ n after. let fewer = given-later w.ids history c.ids.given c.clock.in_order now n since after in omega arith;
      };
      past = (record { act = refl; client = client; request = m; key = key; asked = came; verdict = verdict; unanswered = unanswered w history c now key m none; fits = short; new = first-new w history c now client bytes m onward first; room = room-there now client history w c onward room; accepts = taken-up client m send told e.observation refl refl up }, c.past);
    }
