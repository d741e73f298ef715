-- Immediate replies, silence and Resets preserve what is carried.
use Rattle.std.proofs.Common.{◌≡◌, ℕ, ◌+◌, ◌%◌, ◌<◌, ◌≤◌, Bool, true, false, List, [], ◌∷◌, length, Option, Some, None, Ok, refl, sym, ap, ◌∙◌, subst, arith}
use Rattle.std.specs.Prelude.{◌&&◌, if◌then◌else◌}
use Rattle.std.specs.Option.{option_map_or}
use Rattle.std.proofs.lemmas.Bool.{leb-true, and_parts, and_from}
use Rattle.coap_message.specs.declared.kind.Kind.{Kind}
use Rattle.coap_message.specs.declared.kind.Kind.TheVariants.{Con, Non, Ack, Rst}
use Rattle.coap_message.specs.declared.message.Head.{Head}
use Rattle.coap_message.specs.Uint.{IsBytes}
use Rattle.coap_message.specs.Message.{Message}
use Rattle.coap_message.specs.Reading.{head_at, read_message}
use Rattle.coap_message.specs.Spelling.{Spells}
use Rattle.coap_message.proofs.Spellings.{spelled}
use Rattle.coap_message.proofs.WholeMessages.{read_again}
use Rattle.coap_endpoint.specs.declared.endpoint.Endpoint.{Endpoint}
use Rattle.coap_dedup.specs.declared.record.Record.{Record}
use Rattle.coap_dedup.specs.Lists.{record_of}
use Rattle.coap_store.specs.declared.key.CacheKey.{CacheKey}
use Rattle.coap_model.specs.declared.deed.Refusal.{Refusal}
use Rattle.coap_model.specs.declared.deed.Lacks.{Lacks}
use Rattle.coap_model.specs.declared.deed.Unprocessed.{Unprocessed}
use Rattle.coap_model.specs.Deeds.{code_of}
use Rattle.coap_model.specs.Events.{arrival}
use Rattle.coap_message.specs.Codes.{is_request, is_response}
use Rattle.coap_pending.specs.declared.exchange.Exchange.{Exchange}
use Rattle.coap_pending.specs.Table.{Numbered}
use Rattle.coap_model.specs.Responses.{awaiting}
use Rattle.coap_forward.specs.Messages.{is_con, brings_requests, reset, own_reply, overload_reply, at_once, reply_id}
use Rattle.coap_model.specs.Remembered.{remembered_at}
use Rattle.coap_model.specs.Verdicts.{may_ask}
use Rattle.coap_model.specs.State.{State, next_id, known_of, has_record_room, remembers, repeats, drops, reserved, has_ids, can_reply, ignores, rejects}
use Rattle.coap_model.specs.Requests.{lacks_id, refuses, overloads}
use Rattle.coap_model.specs.Step.{message_in}
use Rattle.coap_model.specs.History.{Observation, no_item, Action, comes_con, gives_id, ids_in, IsRequestOf}
use Rattle.coap_pending.specs.declared.ids.Ids.{Ids as Given}
use Rattle.coap_pending.specs.Ids.{given_in, called}
use Rattle.coap_model.specs.Justified.{Comes, IsNew, HasIdFor, SaysAgain, IsAwaited, Acknowledges, Closes, Closes, IsUnprocessable}
use Rattle.coap_model.specs.Runs.{observation_of}
use Rattle.coap_model.specs.Carries.{Ids, Bears}
use Rattle.coap_model.proofs.GivenIds.{ids-kept, ids-given, room-called}
use Rattle.coap_model.proofs.Encodings.{reset-is, own_reply-is, overload_reply-is, message_in-is, message_in-again}
use Rattle.coap_model.proofs.Positions.{doing, arrival-same}
use Rattle.coap_model.proofs.Verdicts.{deserved-code}
use Rattle.coap_model.proofs.Rules.{by_response, recorded-kind, recorded-response, Asked, Recorded, IsFirst, IsNotCon, IsNothing, verdict_in, IsDenied, IsFull, head_of_read}
use Rattle.coap_model.proofs.OwnReplies.{at_once-is, own-short, overload-short, reply-due, free-one, free-none}
use Rattle.coap_model.proofs.RecordsOfHistory.{known-is, record-full, first-new, first-remembered}
use Rattle.coap_model.proofs.AbsentFromHistory.{deserves, lacks_room}
use Rattle.coap_model.proofs.CountsAndRoom.{ids-free, ids-none}
use Rattle.coap_model.proofs.Stores.{store-otherwise}
use Rattle.coap_model.proofs.AwaitedByHistory.{awaited-by, not-known, not-ignored, not-settled, not-closed, not-closed}
use Rattle.coap_model.proofs.CaseQuiet.{room-still, keeps_still, keeps_quiet}

-- ---- what arrived

-- what tests as Confirmable is Confirmable
con_is : (k : Kind) → is_con k ≡ true → k ≡ Con
con_is Con e = refl
con_is Non e = absurd cc
con_is Ack e = absurd cc
con_is Rst e = absurd cc

-- a request that is processed, according to the history
pub request-came : (w : State) (client : Endpoint) (bytes : List ℕ) (m : Message) → IsBytes bytes → Asked w bytes m → IsRequestOf w.setting client m (arrival client bytes)
request-came w client bytes m fits asked =
    let read = message_in-is w.setting.limits.datagram bytes m fits asked.read in
    let tests = and_parts (brings_requests m.kind) (is_request m.code) asked.request in
    record { brings = record { bytes = bytes; came = refl; spells = read.0; short = read.1 }; kind = tests.0; method = tests.1 }

-- the next id is the next one according to the history
pub id-same : (w : State) (history : List Action) (c : Bears history w) → next_id w ≡ (w.setting.first_id + ids_in history) % 65536
id-same w history c = c.ids.following

-- ---- immediate replies

module _ (w : State) (history : List Action) (c : Bears history w) (now draw : ℕ) (client : Endpoint) (bytes : List ℕ) (m : Message) (onward : w.last ≤ now) (first : IsFirst w now client bytes m) where
  -- a new request, according to the history
  pub came : IsRequestOf w.setting client m (arrival client bytes)
  came = request-came w client bytes m first.fits first.asked

  pub is_new : IsNew w.setting history now client m
  is_new = first-new w history c now client bytes m onward first

  -- its token is short
  pub short_token : length m.token ≤ 8
  short_token = came.brings.spells.message.token

  -- a reply to it takes an id, unless it is Confirmable
  pub takes-ids : comes_con (arrival client bytes) ≡ is_con m.kind
  takes-ids = ap (λ (h : Option Head). option_map_or (λ k. is_con k.kind) h false) (head_of_read w bytes m first.fits first.asked.read)

  -- and there is one
  pub has-id : can_reply w now m.kind ≡ true → HasIdFor m now history
  has-id free non = ids-free 1 now history w c onward (free-one w now m.kind free non)

  -- the ids after a reply
  abbrev pub ids_after : Given
  ids_after = if is_con m.kind then w.ids else called now w.ids

  -- a reply that takes an id has the next one
  pub reply-ids : (e : Action) (v : State) (reply : Message) → e.observation.now ≡ now → gives_id e.observation ≡ (if is_con m.kind then 0 else 1) → Spells e.observation.bytes (at_once m reply) → reply.id ≡ next_id w → can_reply w now m.kind ≡ true → v.setting.first_id ≡ w.setting.first_id → v.ids ≡ ids_after → Ids (e ∷ history) v
  reply-ids e v reply moment gives spells next free first_id is = go (is_con m.kind) refl gives is
    where
      go : (b : Bool) → is_con m.kind ≡ b → gives_id e.observation ≡ (if b then 0 else 1) → v.ids ≡ (if b then w.ids else called now w.ids) → Ids (e ∷ history) v
      go true con none same = ids-kept history w v e c.clock c.ids (omega (arith, moment)) first_id none same
      go false non one same =
          let free_one : has_ids 1 w now ≡ true = rw non at free in
          let room = leb-true (given_in now w.ids + reserved w + 1) 32768 free_one in
          ids-given history w v e c.clock c.ids (omega (arith, moment)) first_id one (same ∙ ap (λ (n : ℕ). called n w.ids) (sym moment)) (subst (λ (n : ℕ). given_in n w.ids < 32768) (sym moment) (omega arith))
          (record { gives = one; message = at_once m reply; spells = spells; id_is = ap (reply_id m) next ∙ reply-due m (next_id w) non ∙ id-same w history c })

  -- and reserved ids can still be given out
  pub reply-room : can_reply w now m.kind ≡ true → (n : ℕ) → now ≤ n → given_in n ids_after + reserved w ≤ 32768
  reply-room free n later = go (is_con m.kind) refl
    where
      go : (b : Bool) → is_con m.kind ≡ b → given_in n (if b then w.ids else called now w.ids) + reserved w ≤ 32768
      go true con = c.within.ids n (omega arith)
      go false non =
          let free_one : has_ids 1 w now ≡ true = rw non at free in
          let room = leb-true (given_in now w.ids + reserved w + 1) 32768 free_one in
          room-called w.ids now (reserved w) (omega arith) n

  -- a refusal preserves what is carried
  pub keeps_refusing : (why : Refusal) → IsDenied w now m why → can_reply w now m.kind ≡ true
      → Bears (doing no_item (observation_of now draw (arrival client bytes) (refuses w now client m why)) ∷ history) (remembers now client m (refuses w now client m why)).state
  keeps_refusing why denied free =
      let code = code_of why in
      let s = refuses w now client m why in
      let e = doing no_item (observation_of now draw (arrival client bytes) s) in
      let deserved = deserves w history c now m why denied in
      let some = deserved-code w.setting history now m c.routes code deserved in
      let reply = own_reply code [] (next_id w) m.token in
      let spells : Spells s.bytes (at_once m reply) = spelled (at_once m reply) (at_once-is m reply (own_reply-is code [] (next_id w) m.token some tt short_token)) in
      let gives : gives_id e.observation ≡ (if is_con m.kind then 0 else 1) = ap (λ (b : Bool). if b then 0 else 1) takes-ids in
      keeps_still w history c e ids_after w.store _ _ (record { act = refl; opens = refl; admits = refl; sends = refl; accepts_answer = refl; leaves_open = λ standing xs. refl; stands = λ standing. refl }) onward (reply-ids e _ reply refl gives spells refl free refl refl) (reply-room free)
      (store-otherwise w.setting history w.store e refl refl c.store)
      (first-remembered w history c now client bytes m onward draw no_item s first refl (λ most wide long. omega (arith, wide, own-short m code (next_id w) m.token short_token)))
      (record { act = refl; client = client; request = m; id = next_id w; asked = came; new = is_new; deserved = deserved; ids = has-id free; tells = record { sent = refl; spells = spells } }, c.past)

  -- so does a 5.03
  pub keeps_overloading : (lacks : Lacks) (key : CacheKey) → verdict_in w m ≡ may_ask key → IsFull w now client key m → can_reply w now m.kind ≡ true
      → Bears (doing no_item (observation_of now draw (arrival client bytes) (overloads w now client m lacks)) ∷ history) (remembers now client m (overloads w now client m lacks)).state
  keeps_overloading lacks key verdict full free =
      let s = overloads w now client m lacks in
      let e = doing no_item (observation_of now draw (arrival client bytes) s) in
      let reply = overload_reply w.setting.limits.retry_s (next_id w) m.token in
      let spells : Spells s.bytes (at_once m reply) = spelled (at_once m reply) (at_once-is m reply (overload_reply-is w.setting.limits.retry_s (next_id w) m.token short_token)) in
      let gives : gives_id e.observation ≡ (if is_con m.kind then 0 else 1) = ap (λ (b : Bool). if b then 0 else 1) takes-ids in
      keeps_still w history c e ids_after w.store _ _ (record { act = refl; opens = refl; admits = refl; sends = refl; accepts_answer = refl; leaves_open = λ standing xs. refl; stands = λ standing. refl }) onward (reply-ids e _ reply refl gives spells refl free refl refl) (reply-room free)
      (store-otherwise w.setting history w.store e refl refl c.store)
      (first-remembered w history c now client bytes m onward draw no_item s first refl (λ most wide long. omega (arith, wide, overload-short m w.setting.limits.retry_s (next_id w) m.token short_token)))
      (record { act = refl; client = client; request = m; key = key; id = next_id w; asked = came; verdict = verdict; no_room = lacks_room w history c now client key m onward full; new = is_new; ids = has-id free; tells = record { sent = refl; spells = spells } }, c.past)

  -- and so does silence because no id is free
  pub keeps_lacking : can_reply w now m.kind ≡ false
      → Bears (doing no_item (observation_of now draw (arrival client bytes) (lacks_id w now)) ∷ history) (remembers now client m (lacks_id w now)).state
  keeps_lacking free =
      let s = lacks_id w now in
      let e = doing no_item (observation_of now draw (arrival client bytes) s) in
      let lack = free-none w now m.kind came.kind free in
      keeps_still w history c e w.ids w.store _ _ (record { act = refl; opens = refl; admits = refl; sends = refl; accepts_answer = refl; leaves_open = λ standing xs. refl; stands = λ standing. refl }) onward (ids-kept history w _ e c.clock c.ids onward refl refl refl) (room-still w history c now onward)
      (store-otherwise w.setting history w.store e refl refl c.store)
      (first-remembered w history c now client bytes m onward draw no_item s first refl (λ most wide long. omega arith))
      (record { act = refl; client = client; request = m; asked = came; kind = lack.0; new = is_new; no_ids = ids-none 1 now history w c onward lack.1; silent = record { sent = refl; bytes = refl } }, c.past)

-- ---- duplicates

-- a message that is remembered arrives, according to the history
pub recorded-came : (w : State) (source : Endpoint) (bytes : List ℕ) (m : Message) → IsBytes bytes → Recorded w bytes m → Comes w.setting source m (arrival source bytes)
recorded-came w source bytes m fits r =
    let read = message_in-is w.setting.limits.datagram bytes m fits r.read in
    record { brings = record { bytes = bytes; came = refl; spells = read.0; short = read.1 }; recorded = r.recorded }

-- repeating a reply for a duplicate preserves what is carried
pub keeps_repeating : (w : State) (history : List Action) (c : Bears history w) (now draw : ℕ) (source : Endpoint) (bytes : List ℕ) (m : Message) (known : Record) → w.last ≤ now → IsBytes bytes → Recorded w bytes m → known_of w now source m ≡ Some known
    → Bears (doing no_item (observation_of now draw (arrival source bytes) (repeats w now source known.reply)) ∷ history) (repeats w now source known.reply).state
keeps_repeating w history c now draw source bytes m known onward fits recorded found = go known.reply refl
  where
    same : record_of source m.id (remembered_at m.kind now history) ≡ Some known
    same = ap (record_of source m.id) (sym (known-is w history c now source bytes m onward m.kind (recorded-kind m recorded.recorded))) ∙ found

    go : (reply : Option (List ℕ)) → known.reply ≡ reply → Bears (doing no_item (observation_of now draw (arrival source bytes) (repeats w now source reply)) ∷ history) (repeats w now source reply).state
    go None is =
        let e = doing no_item (observation_of now draw (arrival source bytes) (repeats w now source None)) in
        keeps_quiet w history c e (record { act = refl; opens = refl; admits = refl; sends = refl; accepts_answer = refl; leaves_open = λ standing xs. refl; stands = λ standing. refl }) refl (λ k. refl) onward refl
        (record { act = refl; source = source; message = m; known = known; comes = recorded-came w source bytes m fits recorded; found = same; says_again = subst (λ (o : Option (List ℕ)). SaysAgain source o e.observation) (sym is) (record { sent = refl; bytes = refl }) }, c.past)
    go (Some reply) is =
        let e = doing no_item (observation_of now draw (arrival source bytes) (repeats w now source (Some reply))) in
        keeps_quiet w history c e (record { act = refl; opens = refl; admits = refl; sends = refl; accepts_answer = refl; leaves_open = λ standing xs. refl; stands = λ standing. refl }) refl (λ k. refl) onward refl
        (record { act = refl; source = source; message = m; known = known; comes = recorded-came w source bytes m fits recorded; found = same; says_again = subst (λ (o : Option (List ℕ)). SaysAgain source o e.observation) (sym is) (refl, refl) }, c.past)

-- and so does silence if there is no room to remember what arrived
pub keeps_dropping : (w : State) (history : List Action) (c : Bears history w) (now draw : ℕ) (source : Endpoint) (bytes : List ℕ) (m : Message) → w.last ≤ now → IsBytes bytes → Recorded w bytes m → (is_response m.code ≡ true → (x : Numbered Exchange) × (awaiting w source m ≡ Some x)) → known_of w now source m ≡ None → has_record_room w now source m.kind ≡ false
    → Bears (doing no_item (observation_of now draw (arrival source bytes) (drops w now m.kind)) ∷ history) (drops w now m.kind).state
keeps_dropping w history c now draw source bytes m onward fits recorded wanted unknown full =
    let e = doing no_item (observation_of now draw (arrival source bytes) (drops w now m.kind)) in
    let kind = recorded-kind m recorded.recorded in
    let same = known-is w history c now source bytes m onward m.kind kind in
    keeps_quiet w history c e (record { act = refl; opens = refl; admits = refl; sends = refl; accepts_answer = refl; leaves_open = λ standing xs. refl; stands = λ standing. refl }) refl (λ k. refl) onward refl (
      record {
        act = refl;
        source = source;
        message = m;
        comes = recorded-came w source bytes m fits recorded;
        wanted = λ response. let x = wanted response in (x.0.0, awaited-by w history c now source m x.0 bytes fits recorded.read (by_response (recorded-response m recorded.recorded response) x.1));
        unknown = ap (record_of source m.id) (sym same) ∙ unknown;
        full = record-full w history c now source bytes m onward kind full;
        silent = record { sent = refl; bytes = refl };
      },
      c.past,
    )

-- ---- what isn't processed

-- a request that would be processed was read
request-read : (w : State) (source client : Endpoint) (bytes : List ℕ) (m : Message) → IsRequestOf w.setting client m (arrival source bytes) → (message_in w.setting.limits.datagram bytes ≡ Some m) × ((brings_requests m.kind && is_request m.code) ≡ true)
request-read w source client bytes m r =
    let b = r.brings in
    let same = arrival-same source client bytes b.bytes b.came in
    let read : read_message bytes ≡ Ok m = ap read_message same.1 ∙ read_again b.bytes m b.spells in
    let short : length bytes ≤ w.setting.limits.datagram = rw same.1 b.short in
    (message_in-again w.setting.limits.datagram bytes m read short, and_from (brings_requests m.kind) (is_request m.code) r.kind r.method)

-- what holds no other message can't be processed
unprocessable : (w : State) (history : List Action) (c : Bears history w) (e : Observation) (source : Endpoint) (bytes : List ℕ) → w.last ≤ e.now → e.event ≡ arrival source bytes → IsNothing w e.now source bytes → IsUnprocessable w.setting history e
unprocessable w history c e source bytes onward came none = record {
  no_request = λ client m r. let read = request-read w source client bytes m (subst (IsRequestOf w.setting client m) came r) in let test = (none m read.0).request in absurd (let both = sym test ∙ read.1 in cc);
  no_duplicate = λ other m comes. not-known w history c e.now source bytes onward none other m (subst (Comes w.setting other m) came comes);
  no_answer = λ x a. not-ignored w history c e.now source bytes onward none x (subst (IsAwaited w.setting history e.now x) came a);
  no_settling = λ x a. not-settled w history c e.now source bytes onward none x (subst (Acknowledges w.setting history e.now x) came a);
  no_closing = λ v k. not-closed w history c e.now source bytes none v (subst (Closes w.setting history e.now v) came k);
}

-- a Reset preserves what is carried
pub keeps_rejecting : (why : Unprocessed) (w : State) (history : List Action) (c : Bears history w) (now draw : ℕ) (source : Endpoint) (bytes : List ℕ) (head : Head) → w.last ≤ now → head_at bytes ≡ Some head → is_con head.kind ≡ true → IsNothing w now source bytes
    → Bears (doing no_item (observation_of now draw (arrival source bytes) (rejects w now source head.id why)) ∷ history) (rejects w now source head.id why).state
keeps_rejecting why w history c now draw source bytes head onward is con none =
    let e = doing no_item (observation_of now draw (arrival source bytes) (rejects w now source head.id why)) in
    keeps_quiet w history c e (record { act = refl; opens = refl; admits = refl; sends = refl; accepts_answer = refl; leaves_open = λ standing xs. refl; stands = λ standing. refl }) refl (λ k. refl) onward refl
    (record { act = refl; source = source; bytes = bytes; head = head; came = refl; head_is = is; con = con_is head.kind con; unprocessable = unprocessable w history c e.observation source bytes onward refl none; tells = record { sent = refl; spells = spelled (reset head.id) (reset-is head.id) } }, c.past)

-- and so does doing nothing
pub keeps_ignoring : (why : Unprocessed) (w : State) (history : List Action) (c : Bears history w) (now draw : ℕ) (source : Endpoint) (bytes : List ℕ) → w.last ≤ now → IsNotCon bytes → IsNothing w now source bytes
    → Bears (doing no_item (observation_of now draw (arrival source bytes) (ignores w now why)) ∷ history) (ignores w now why).state
keeps_ignoring why w history c now draw source bytes onward quiet none =
    let e = doing no_item (observation_of now draw (arrival source bytes) (ignores w now why)) in
    keeps_quiet w history c e (record { act = refl; opens = refl; admits = refl; sends = refl; accepts_answer = refl; leaves_open = λ standing xs. refl; stands = λ standing. refl }) refl (λ k. refl) onward refl
    (record { act = refl; source = source; bytes = bytes; came = refl; no_con = λ head is con. absurd (let f = quiet head is in let g = sym f ∙ ap is_con con in cc); unprocessable = unprocessable w history c e.observation source bytes onward refl none; silent = record { sent = refl; bytes = refl } }, c.past)
