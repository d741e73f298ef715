-- What becomes of a request, told apart as the program does: each branch is a step of the model.
use Rattle.std.proofs.Common.{◌≡◌, ℕ, ◌+◌, ◌≤◌, Bool, true, false, cond, leb, length, Option, Some, None, Result, refl, sym, ap, ◌∙◌, subst, arith}
use Rattle.std.specs.Prelude.{◌&&◌, IfOk, IfSome, option_map}
use Rattle.std.specs.Option.{option_map_or}
use Rattle.std.proofs.lemmas.Bool.{leb-false, lt-leb}
use Rattle.std.proofs.lemmas.Result.{IfOk-weaker}
use Rattle.coap_message.specs.declared.error.OutOfMemory.{OutOfMemory}
use Rattle.coap_message.specs.declared.kind.Kind.{Kind}
use Rattle.coap_message.specs.declared.kind.Kind.TheVariants.{Con, Non, Ack, Rst}
use Rattle.coap_message.specs.Datagram.{Datagram}
use Rattle.coap_message.specs.Message.{Message}
use Rattle.coap_endpoint.specs.declared.endpoint.Endpoint.{Endpoint}
use Rattle.coap_store.specs.declared.key.CacheKey.{CacheKey}
use Rattle.coap_store.specs.declared.stored.Stored.{Stored}
use Rattle.coap_store.specs.Entries.{Entry, entry_key, has_usable, stored_for}
use Rattle.coap_store.specs.Freshness.{is_usable}
use Rattle.coap_store.specs.Lists.{of_key}
use Rattle.coap_dedup.specs.declared.record.Record.{Record}
use Rattle.coap_pending.specs.Exchanges.{is_joinable}
use Rattle.coap_pending.specs.Ids.{given_in}
use Rattle.coap_pending.specs.Table.{first_that}
use Rattle.coap_model.specs.Deeds.{held_of}
use Rattle.coap_model.specs.declared.deed.Deed.TheVariants.{Joined, Opened}
use Rattle.coap_model.specs.declared.deed.Held.{Held}
use Rattle.coap_model.specs.declared.deed.Lacks.{Lacks}
use Rattle.coap_model.specs.declared.deed.Refusal.{Refusal}
use Rattle.coap_model.specs.declared.deed.Refusal.TheVariants.{Length}
use Rattle.coap_model.specs.declared.deed.Did.{Did}
use Rattle.coap_forward.specs.Forms.{form_fits}
use Rattle.coap_forward.specs.Messages.{is_get}
use Rattle.coap_model.specs.Verdicts.{Verdict, refused_with, may_ask, verdict_of}
use Rattle.coap_model.specs.State.{lacks_to_join, lacks_to_open, State, Step, reserved, has_ids, can_reply, has_exchange_room, has_waiter_room, has_room_to_join, has_room_to_open, known_of, remembers, repeats}
use Rattle.coap_model.specs.Requests.{lacks_id, refuses, overloads, opens, turns_down, turns_away, hits, joins, on_exchange_needed, on_joinable, on_miss, on_entry, on_key, on_verdict, on_new}
use Rattle.coap_core.specs.Arrivals.{of_arrival}
use Rattle.coap_core.specs.Asked.{CanAsk, IsForwardable, missed_step, needing_step, opening_step}
use Rattle.coap_core.specs.Done.{DoesSo, IsDone, repetition_of, wants_memory}
use Rattle.coap_core.specs.declared.arrival.Arrival.{Arrival}
use Rattle.coap_core.specs.declared.request_target.CacheQuery.{CacheQuery}
use Rattle.coap_model.proofs.Verdicts.{askable}
use Rattle.coap_core.proofs.Puts.{taken-takes}
use Rattle.coap_core.proofs.Records.{held-same}

-- what is done in a step is done in one that is equal, where the datagram was written to before
pub done-as : {s t : Step} {r : Result Did OutOfMemory} {old mid new : Datagram} {w v : State} → t ≡ s → mid.room ≡ old.room → IsDone s r mid new w v → IsDone t r old new w v
done-as {s} {t} {r} {old} {mid} {new} {w} {v} same room done =
    record {
      exact = subst (λ (x : Step). IfOk r (λ report. DoesSo x report old new v)) (sym same)
          (IfOk-weaker r (λ report. DoesSo s report mid new v) (λ report. DoesSo s report old new v) (λ report d. (d.0, d.1 ∙ held-same mid old s.bytes room, d.2)) done.exact);
      err = done.err;
      kept = done.kept ∙ room;
    }

-- the same for a request that is remembered
pub remembered-as : (a : Arrival) {s t : Step} {r : Result Did OutOfMemory} {old mid new : Datagram} {w v : State} → t ≡ s → mid.room ≡ old.room → IsDone (of_arrival remembers a s) r mid new w v → IsDone (of_arrival remembers a t) r old new w v
remembered-as a same room done = done-as (ap (of_arrival remembers a) same) room done

-- what is sent in a step fits where what is sent in an equal one does
pub fits-as : {s t : Step} {room other : ℕ} → t ≡ s → other ≡ room → length t.bytes ≤ room → length s.bytes ≤ other
fits-as {s} {t} {room} same rooms fits = subst (λ (n : ℕ). length s.bytes ≤ n) (sym rooms) (subst (λ (x : Step). length x.bytes ≤ room) same fits)

-- ---- duplicates

module _ (w : State) (now : ℕ) (source : Endpoint) (m : Message) (step : Option Record → Step) (again : (known : Record) → step (Some known) ≡ repeats w now source known.reply) where
  -- a duplicate is told what its message was told: that fits
  pub repetition-fits : (room : ℕ) → length (step (known_of w now source m)).bytes ≤ room → IfSome (repetition_of w now source m) (λ s. length s.bytes ≤ room)
  repetition-fits room fits = go (known_of w now source m) fits
    where
      go : (o : Option Record) → length (step o).bytes ≤ room → IfSome (option_map (λ known. repeats w now source known.reply) o) (λ s. length s.bytes ≤ room)
      go None f = tt
      go (Some known) f = subst (λ (s : Step). length s.bytes ≤ room) (again known) f

module _ (w : State) (now : ℕ) (client : Endpoint) (m : Message) where
  -- ---- memory

  abbrev Takes : Step → Type 0
  Takes s = wants_memory s ≡ true

  either-takes : (b : Bool) (s t : Step) → Takes s → Takes t → Takes (cond b s t)
  either-takes true s t p q = p
  either-takes false s t p q = q

  down-takes : (why : Refusal) → Takes (turns_down w now client m why)
  down-takes why = either-takes (can_reply w now m.kind) (refuses w now client m why) (lacks_id w now) refl refl

  away-takes : (lacks : Lacks) → Takes (turns_away w now client m lacks)
  away-takes lacks = either-takes (can_reply w now m.kind) (overloads w now client m lacks) (lacks_id w now) refl refl

  wanted-takes : (key : CacheKey) (stored : Option Stored) → Takes (on_exchange_needed w now client m key stored)
  wanted-takes key stored =
      either-takes (form_fits w.setting.limits.datagram key.target None m) (cond (has_room_to_open w now client) (opens w now client m key stored) (turns_away w now client m (lacks_to_open w now client))) (turns_down w now client m Length)
      (either-takes (has_room_to_open w now client) (opens w now client m key stored) (turns_away w now client m (lacks_to_open w now client)) (taken-takes (Opened (w.admitted + 1) (w.opened + 1) (held_of m stored)) client m _ (λ bytes. refl)) (away-takes (lacks_to_open w now client)))
      (down-takes Length)

  joinable-takes : (key : CacheKey) (stored : Option Stored) (o : Option ℕ) → Takes (on_joinable w now client m key stored o)
  joinable-takes key stored None = wanted-takes key stored
  joinable-takes key stored (Some exchange) = either-takes (has_room_to_join w now client) (joins w now client m exchange) (turns_away w now client m (lacks_to_join w now client)) (taken-takes (Joined (w.admitted + 1) exchange) client m _ (λ bytes. refl)) (away-takes (lacks_to_join w now client))

  miss-takes : (key : CacheKey) (stored : Option Stored) → Takes (on_miss w now client m key stored)
  miss-takes key stored = joinable-takes key stored (first_that (is_joinable key) w.exchanges)

  entry-takes : (key : CacheKey) (o : Option Entry) → Takes (on_entry w now client m key o)
  entry-takes key None = miss-takes key None
  entry-takes key (Some entry) =
      either-takes (is_usable now entry.1) (cond (can_reply w now m.kind) (hits w now client m key entry.1) (lacks_id w now)) (on_miss w now client m key (Some entry.1))
      (either-takes (can_reply w now m.kind) (hits w now client m key entry.1) (lacks_id w now) refl refl)
      (miss-takes key (Some entry.1))

  key-takes : (key : CacheKey) → Takes (on_key w now client m key)
  key-takes key =
      either-takes (is_get m.code) (on_entry w now client m key (of_key entry_key key w.store)) (on_exchange_needed w now client m key None)
      (entry-takes key (of_key entry_key key w.store))
      (wanted-takes key None)

  verdict-takes : (v : Verdict) → Takes (on_verdict w now client m v)
  verdict-takes (refused_with why) = down-takes why
  verdict-takes (may_ask key) = key-takes key

  -- whatever becomes of a request that is new takes memory
  pub new-takes : wants_memory (on_new w now client m) ≡ true
  new-takes = verdict-takes (verdict_of w.setting.routes m)

  -- ---- requests for a key

  module _ (key : CacheKey) where
    -- what is stored for it, if anything is, can't be shown
    pub missed : is_get m.code ≡ true → has_usable key now w.store ≡ false → on_key w now client m key ≡ missed_step w now client m key
    missed get none = rw get (go (of_key entry_key key w.store) none)
      where
        go : (o : Option Entry) → option_map_or (λ entry. is_usable now entry.1) o false ≡ false → on_entry w now client m key o ≡ on_miss w now client m key (option_map (λ entry. entry.1) o)
        go None e = refl
        go (Some entry) e = rw e refl

    -- what is stored for it is shown, where it is usable and a reply can be sent
    pub found : (s : Stored) → is_get m.code ≡ true → stored_for key w.store ≡ Some s → is_usable now s ≡ true → can_reply w now m.kind ≡ true → (on_key w now client m key).bytes ≡ (hits w now client m key s).bytes
    found s get is usable reply = rw get (go (of_key entry_key key w.store) is)
      where
        go : (o : Option Entry) → option_map (λ entry. entry.1) o ≡ Some s → (on_entry w now client m key o).bytes ≡ (hits w now client m key s).bytes
        go None e = absurd cc
        go (Some entry) e = rw (ap (λ (o : Option Stored). option_map_or (λ stored. stored) o s) e, usable, reply) refl

  -- ---- requests that are new

  -- where no id is free for a reply none is for a client that waits, and none for an exchange
  last-false : (a b : Bool) → b ≡ false → (a && b) ≡ false
  last-false true b e = e
  last-false false b e = refl

  without-id : can_reply w now m.kind ≡ false → has_ids 1 w now ≡ false
  without-id none = go m.kind none
    where
      go : (kind : Kind) → can_reply w now kind ≡ false → has_ids 1 w now ≡ false
      go Con e = absurd cc
      go Non e = e
      go Ack e = e
      go Rst e = e

  apart : can_reply w now m.kind ≡ false → has_room_to_join w now client ≡ false
  apart none = last-false (has_waiter_room w client) (has_ids 1 w now) (without-id none)

  shut : can_reply w now m.kind ≡ false → has_room_to_open w now client ≡ false
  shut none = last-false (has_exchange_room w client) _ (last-false (has_waiter_room w client) (has_ids 2 w now) (few (without-id none)))
    where
      few : leb (given_in now w.ids + reserved w + 1) 32768 ≡ false → leb (given_in now w.ids + reserved w + 2) 32768 ≡ false
      few e = let more = leb-false _ _ e in lt-leb _ _ (omega (arith, more))

  -- so nothing is said, whatever the verdict
  pub lacking : can_reply w now m.kind ≡ false → on_new w now client m ≡ lacks_id w now
  lacking none = of (verdict_of w.setting.routes m)
    where
      wants : (key : CacheKey) (held : Option Stored) (b : Bool) → form_fits w.setting.limits.datagram key.target None m ≡ b → on_exchange_needed w now client m key held ≡ lacks_id w now
      wants key held true e = rw (e, shut none, none) refl
      wants key held false e = rw (e, none) refl

      want : (key : CacheKey) (held : Option Stored) → on_exchange_needed w now client m key held ≡ lacks_id w now
      want key held = wants key held (form_fits w.setting.limits.datagram key.target None m) refl

      join : (key : CacheKey) (held : Option Stored) (o : Option ℕ) → on_joinable w now client m key held o ≡ lacks_id w now
      join key held None = want key held
      join key held (Some exchange) = rw (apart none, none) refl

      miss : (key : CacheKey) (held : Option Stored) → on_miss w now client m key held ≡ lacks_id w now
      miss key held = join key held (first_that (is_joinable key) w.exchanges)

      entry : (key : CacheKey) (o : Option Entry) → on_entry w now client m key o ≡ lacks_id w now
      entry key None = miss key None
      entry key (Some stored) = usable (is_usable now stored.1) refl
        where
          usable : (b : Bool) → is_usable now stored.1 ≡ b → on_entry w now client m key (Some stored) ≡ lacks_id w now
          usable true e = rw (e, none) refl
          usable false e = rw e (miss key (Some stored.1))

      keyed : (key : CacheKey) (b : Bool) → cond b (on_entry w now client m key (of_key entry_key key w.store)) (on_exchange_needed w now client m key None) ≡ lacks_id w now
      keyed key true = entry key (of_key entry_key key w.store)
      keyed key false = want key None

      of : (v : Verdict) → on_verdict w now client m v ≡ lacks_id w now
      of (refused_with why) = rw none refl
      of (may_ask key) = keyed key (is_get m.code)

-- ---- requests that aren't answered from the store

module _ {a : Arrival} {query : CacheQuery} {held : Held} {w : State} (can : CanAsk a query held w) where
  -- they may be forwarded
  pub forwardable : IsForwardable a.message.now query
  forwardable =
      let is = askable w.setting.routes a.message.now can.reply.ready.can.routes query.key can.asked.key in
      record { method = is.method; survey = can.asked.survey; target = is.sound }

  -- the form is too long
  pub too-long : form_fits w.setting.limits.datagram query.key.target None a.message.now ≡ false → of_arrival (needing_step w) a query.key ≡ of_arrival (refuses w) a Length
  too-long fits = rw (fits, can.reply.ids) refl

  module _ (fits : form_fits w.setting.limits.datagram query.key.target None a.message.now ≡ true) where
    -- there is no room
    pub turned-away : (lacks : Lacks) → lacks ≡ lacks_to_open w a.now a.from → has_room_to_open w a.now a.from ≡ false → of_arrival (needing_step w) a query.key ≡ of_arrival (overloads w) a lacks
    turned-away lacks is closed = rw (is, fits, closed, can.reply.ids) refl

    -- it is asked for
    pub opened : has_room_to_open w a.now a.from ≡ true → of_arrival (needing_step w) a query.key ≡ of_arrival (opening_step w) a query.key
    opened free = rw (fits, free) refl
