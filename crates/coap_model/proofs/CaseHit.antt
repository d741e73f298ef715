-- A hit preserves what is carried: the client is sent the entry with its key in the cache of the
-- history.
use Rattle.std.proofs.Common.{◌≡◌, ℕ, ◌≤◌, Bool, true, false, length, List, ◌∷◌, Some, refl, sym, ap, subst}
use Rattle.std.specs.Prelude.{if◌then◌else◌, not}
use Rattle.std.proofs.lemmas.Bool.{and_parts}
use Rattle.coap_message.specs.declared.kind.Kind.TheVariants.{Non}
use Rattle.coap_message.specs.Message.{Message}
use Rattle.coap_message.specs.Spelling.{IsMessage, Spells, spelling}
use Rattle.coap_message.proofs.Spellings.{spelled}
use Rattle.coap_option.specs.Selection.{tags_of}
use Rattle.coap_endpoint.specs.declared.endpoint.Endpoint.{Endpoint}
use Rattle.coap_store.specs.declared.key.CacheKey.{CacheKey}
use Rattle.coap_store.specs.Entries.{Entry, entry_key}
use Rattle.coap_store.specs.Freshness.{is_fresh, is_usable}
use Rattle.coap_store.specs.Lists.{of_key, used}
use Rattle.coap_model.specs.Setting.{Setting}
use Rattle.coap_model.specs.Events.{arrival}
use Rattle.coap_forward.specs.Answers.{stored_answer, shown}
use Rattle.coap_model.specs.Verdicts.{may_ask}
use Rattle.coap_forward.specs.Messages.{is_con, is_get, at_once}
use Rattle.coap_model.specs.State.{State, remembers, next_id, can_reply}
use Rattle.coap_model.specs.Requests.{hits}
use Rattle.coap_model.specs.History.{gives_id, no_item, Action}
use Rattle.coap_model.specs.Changed.{IsTold}
use Rattle.coap_model.specs.Cached.{Cached, IsStoreOf, IsEntryOf}
use Rattle.coap_model.specs.Justified.{IsUsable}
use Rattle.coap_model.specs.Runs.{observation_of}
use Rattle.coap_model.specs.Carries.{Bears}
use Rattle.coap_model.proofs.Positions.{doing}
use Rattle.coap_model.proofs.CaseQuiet.{keeps_still}
use Rattle.coap_model.proofs.OwnReplies.{at_once-is, at_once-long}
use Rattle.coap_model.proofs.RecordsOfHistory.{first-new, first-remembered}
use Rattle.coap_model.proofs.CaseReplied.{request-came, takes-ids, has-id, ids_after, reply-ids, reply-room}
use Rattle.coap_model.proofs.Rules.{IsFirst, verdict_in}
use Rattle.coap_model.proofs.ShownResponses.{IsHoldable, shown-is, shown-fits}
use Rattle.coap_model.proofs.Endings.{cache-holdable}
use Rattle.coap_model.proofs.Cached.{found-holds}
use Rattle.coap_model.proofs.Stores.{found-cached, store-hit}
use Rattle.coap_model.proofs.Verdicts.{askable}

-- ---- what is sent of an entry

-- the entry that is stored for a key, according to the history
module _ (w : State) (history : List Action) (c : Bears history w) (key : CacheKey) (entry : Entry) (found : of_key entry_key key w.store ≡ Some entry) where
  abbrev pub cached-entry : IsEntryOf w.setting history c.store.cached key entry
  cached-entry = found-cached w.setting history w.store c.store.cached key entry c.store.each found

  -- it can be sent to clients
  stored-holdable : IsHoldable w.setting.limits.datagram entry.1.response
  stored-holdable =
      let f = cached-entry in
      let all = cache-holdable w.setting history c.store.cached c.store.is_cache in
      subst (λ (e : Entry). IsHoldable w.setting.limits.datagram e.1.response) (sym f.stored_is.same) (found-holds (λ d. IsHoldable w.setting.limits.datagram d.response) c.store.cached key f.entry all f.is_there)

  -- what is sent to the client is a message
  pub hit-is : (now id : ℕ) (token : List ℕ) (tags : List (List ℕ)) → length token ≤ 8 → IsMessage (shown now (stored_answer entry.1) id token tags)
  hit-is now id token tags short = shown-is w.setting.limits.datagram Non true now (stored_answer entry.1) id token tags stored-holdable short

  -- which fits a datagram
  pub hit-fits : (most now : ℕ) (m : Message) (id : ℕ) (token : List ℕ) (tags : List (List ℕ)) → 128 ≤ most → w.setting.limits.datagram ≤ most → length token ≤ 8 → length (spelling (at_once m (shown now (stored_answer entry.1) id token tags))) ≤ most
  hit-fits most now m id token tags wide long short = at_once-long m (shown now (stored_answer entry.1) id token tags) most (shown-fits w.setting.limits.datagram most Non true now (stored_answer entry.1) id token tags wide long stored-holdable short)

-- an entry that isn't marked
unmarked : (b : Bool) → not b ≡ true → b ≡ false
unmarked true e = absurd cc
unmarked false e = refl

-- a usable entry of the store is a usable entry of the cache
usable-entry : (setting : Setting) (history : List Action) (cached : List Cached) (key : CacheKey) (entry : Entry) (now : ℕ) (f : IsEntryOf setting history cached key entry) → is_usable now entry.1 ≡ true → IsUsable setting history now f.entry
usable-entry setting history cached key entry now f usable =
    let parts = and_parts (is_fresh now entry.1) (not entry.1.marked) usable in
    record {
      fresh = subst (λ (e : Entry). is_fresh now e.1 ≡ true) f.stored_is.same parts.0;
      unchanged = subst (λ (b : Bool). IsTold b setting f.entry.key.target f.entry.asking history) (unmarked entry.1.marked parts.1) f.stored_is.told;
    }

-- a hit preserves what is carried
pub keeps_hitting : (w : State) (history : List Action) (c : Bears history w) (now draw : ℕ) (client : Endpoint) (bytes : List ℕ) (m : Message) (key : CacheKey) (entry : Entry) → w.last ≤ now → IsFirst w now client bytes m → is_get m.code ≡ true → verdict_in w m ≡ may_ask key → of_key entry_key key w.store ≡ Some entry → is_usable now entry.1 ≡ true → can_reply w now m.kind ≡ true
    → Bears (doing no_item (observation_of now draw (arrival client bytes) (hits w now client m key entry.1)) ∷ history) (remembers now client m (hits w now client m key entry.1)).state
keeps_hitting w history c now draw client bytes m key entry onward first get verdict found usable free =
    let s = hits w now client m key entry.1 in
    let e = doing no_item (observation_of now draw (arrival client bytes) s) in
    let came = request-came w client bytes m first.fits first.asked in
    let may = askable w.setting.routes m c.routes key verdict in
    let f = cached-entry w history c key entry found in
    let reply = shown now (stored_answer entry.1) (next_id w) m.token (tags_of m) in
    let spells : Spells s.bytes (at_once m reply) = spelled (at_once m reply) (at_once-is m reply (hit-is w history c key entry found now (next_id w) m.token (tags_of m) came.brings.spells.message.token)) in
    let gives : gives_id e.observation ≡ (if is_con m.kind then 0 else 1) = ap (λ (b : Bool). if b then 0 else 1) (takes-ids w history c now draw client bytes m onward first) in
    let stored : IsStoreOf w.setting (e ∷ history) (used entry_key key w.store) =
    subst (λ (k : CacheKey). IsStoreOf w.setting (e ∷ history) (used entry_key k w.store)) (sym may.key_is)
    (store-hit w.setting history w.store e client m key.target entry refl came.brings may.target_is (subst (λ (k : CacheKey). of_key entry_key k w.store ≡ Some entry) may.key_is found) c.store)
    in
    keeps_still w history c e (ids_after w history c now draw client bytes m onward first) (used entry_key key w.store) _ _ (record { act = refl; opens = refl; admits = refl; sends = refl; accepts_answer = refl; leaves_open = λ standing xs. refl; stands = λ standing. refl }) onward
    (reply-ids w history c now draw client bytes m onward first e _ reply refl gives spells refl free refl refl) (reply-room w history c now draw client bytes m onward first free) stored
    (first-remembered w history c now client bytes m onward draw no_item s first refl (λ most wide long. hit-fits w history c key entry found most now m (next_id w) m.token (tags_of m) wide long came.brings.spells.message.token)) (
      record {
        act = refl;
        client = client;
        request = m;
        key = key;
        cached = c.store.cached;
        entry = f.entry;
        id = next_id w;
        asked = came;
        method = get;
        verdict = verdict;
        is_cache = c.store.is_cache;
        found = f.is_there;
        usable = usable-entry w.setting history c.store.cached key entry now f usable;
        new = first-new w history c now client bytes m onward first;
        ids = has-id w history c now draw client bytes m onward first free;
        tells = record { sent = refl; spells = subst (λ (s : Entry). Spells e.observation.bytes (at_once m (shown now (stored_answer s.1) (next_id w) m.token (tags_of m)))) f.stored_is.same spells };
      },
      c.past,
    )
