-- A store that corresponds to the cache of a history: each way in which an entry moves preserves
-- this, and what is changed is marked.
use Rattle.std.proofs.Common.{◌≡◌, inr, ℕ, ◌≤◌, length, Bool, true, false, cond, List, [], ◌∷◌, Option, Some, None, map, refl, sym, ap, ◌∙◌, subst, arith}
use Rattle.coap_endpoint.specs.declared.endpoint.Endpoint.{Endpoint}
use Rattle.coap_endpoint.specs.declared.target.Target.{Target}
use Rattle.coap_endpoint.specs.Equality.{same_target}
use Rattle.coap_message.specs.Message.{Message}
use Rattle.std.specs.Prelude.{Ok, ◌||◌}
use Rattle.std.specs.Option.{option_map}
use Rattle.std.proofs.lemmas.Option.{same_Some}
use Rattle.coap_target.specs.Request.{request_target}
use Rattle.coap_store.specs.declared.key.CacheKey.{CacheKey}
use Rattle.coap_store.specs.declared.stored.Stored.{Stored}
use Rattle.coap_store.specs.Entries.{Entry, entry_key, entry_size, marked, stored_for, IsStore}
use Rattle.coap_store.specs.Lists.{of_key, others, put, total, used}
use Rattle.coap_store.proofs.Distinct.{of_key-key}
use Rattle.coap_store.proofs.Held.{IsStore-others, IsStore-used, IsStore-put}
use Rattle.coap_forward.specs.Changes.{changed_by, concerns}
use Rattle.coap_model.specs.declared.report.Outcome.TheVariants.{Answered, Hit}
use Rattle.coap_model.specs.declared.report.Storing.TheVariants.{Kept, TooLarge}
use Rattle.coap_model.specs.Setting.{Setting}
use Rattle.coap_model.specs.Keys.{request_key}
use Rattle.coap_model.specs.Answers.{marked_all}
use Rattle.coap_model.specs.History.{Action, Brings, accepts_answer, Gets}
use Rattle.coap_model.specs.Pairs.{Pairs, Both}
use Rattle.coap_model.specs.Changed.{key_asked, IsTold}
use Rattle.coap_model.specs.Cached.{Cached, cached_key, cached_size, entry_of_cached, entry_got, kept_for, store_limits, leaves, IsCacheOf, empty, kept, too_large, hit, otherwise, WasCacheAt, IsStored, IsStoreOf, IsEntryOf}
use Rattle.coap_model.proofs.MarksAndTaints.{told-stays, told-on}
use Rattle.coap_model.proofs.Positions.{here, index_below}
use Rattle.coap_model.proofs.RelatedLists.{Pairs-length, Pairs-weaken, Pairs-distinct, Pairs-total, Pairs-of_key, Pairs-others, Pairs-used, Pairs-put}

-- ---- the entries of a store

-- they have the same keys
same-key : {setting : Setting} {history : List Action} (s : Entry) (c : Cached) → IsStored setting history s c → entry_key s ≡ cached_key c
same-key s c is = ap entry_key is.same

-- and the same sizes
same-size : {setting : Setting} {history : List Action} (s : Entry) (c : Cached) → IsStored setting history s c → entry_size s ≡ cached_size c
same-size s c is = ap entry_size is.same

-- ---- marks

-- an entry after these targets were changed
abbrev marked_by : List Target → Entry → Entry
marked_by changed s = (s.0, record s.1 { marked = s.1.marked || concerns changed s.0.target })

-- one change after the other marks it the same
marked-entry : (t : Target) (changed : List Target) (s : Entry) → marked_by changed (marked t s) ≡ marked_by (t ∷ changed) s
marked-entry t changed s = go (same_target s.0.target t) (concerns changed s.0.target) s.1.marked refl
  where
    go : (b rest m : Bool) → s.1.marked ≡ m → ◌≡◌ {A = Entry} (marked_by changed (cond b (s.0, record s.1 { marked = true }) s)) (s.0, record s.1 { marked = s.1.marked || (b || concerns changed s.0.target) })
    go true rest true is = rw is refl
    go true rest false is = rw is refl
    go false rest m is = refl

pub marked-all : (changed : List Target) (store : List Entry) → marked_all changed store ≡ map (marked_by changed) store
marked-all [] store = sym (plain store)
  where
    or-false : (b : Bool) → (b || false) ≡ b
    or-false true = refl
    or-false false = refl

    none : (s : Entry) → marked_by [] s ≡ s
    none s = λ i. (s.0, record s.1 { marked = or-false s.1.marked i })

    plain : (ss : List Entry) → map (marked_by []) ss ≡ ss
    plain [] = refl
    plain (s ∷ ss) = λ i. none s i ∷ plain ss i
marked-all (t ∷ changed) store = marked-all changed (map (marked t) store) ∙ both store
  where
    both : (ss : List Entry) → map (marked_by changed) (map (marked t) ss) ≡ map (marked_by (t ∷ changed)) ss
    both [] = refl
    both (s ∷ ss) = λ i. marked-entry t changed s i ∷ both ss i

-- ---- the moves

-- at first the store is empty
pub store-empty : (setting : Setting) → IsStoreOf setting [] []
store-empty setting = record { cached = []; is_cache = empty; each = tt }

-- an entry of the store stays right if no answer is accepted
stored-stays : {setting : Setting} {past : List Action} (d : Action) → accepts_answer d.observation.report.outcome ≡ false → (s : Entry) (c : Cached) → IsStored setting past s c → IsStored setting (d ∷ past) s c
stored-stays {setting} {past} d none s c is = record { same = is.same; was_asked = inr is.was_asked; told = told-stays s.1.marked setting c.key.target c.asking past d none is.told }

module _ (setting : Setting) (past : List Action) (d : Action) {x : ℕ} (gets : Gets setting x (here past d)) where
  -- what the answer changes
  abbrev pub changed_here : List Target
  changed_here = changed_by (key_asked gets).target gets.meets.message

  -- what the answer changes is marked, and so an entry of the store stays right
  stored-on : (s : Entry) (c : Cached) → IsStored setting past s c → IsStored setting (d ∷ past) (marked_by changed_here s) c
  stored-on s c is =
      let key : s.0 ≡ c.key = ap (λ (e : Entry). e.0) is.same in
      record {
        same = λ i. (key i, record (is.same i).1 { marked = s.1.marked || concerns changed_here s.0.target });
        was_asked = inr is.was_asked;
        told =
            subst (λ (k : CacheKey). IsTold (s.1.marked || concerns changed_here k.target) setting c.key.target c.asking (d ∷ past)) (sym key)
            (told-on s.1.marked c.key.target c.asking gets (index_below past c.asking is.was_asked) is.told);
      }

  -- so does a whole store
  pub marked-on : (store : List Entry) (cs : List Cached) → Pairs (IsStored setting past) store cs → Pairs (IsStored setting (d ∷ past)) (marked_all changed_here store) cs
  marked-on store cs each = subst (λ (ss : List Entry). Pairs (IsStored setting (d ∷ past)) ss cs) (sym (marked-all changed_here store)) (go store cs each)
    where
      go : (ss : List Entry) (cs : List Cached) → Pairs (IsStored setting past) ss cs → Pairs (IsStored setting (d ∷ past)) (map (marked_by changed_here) ss) cs
      go [] [] p = tt
      go [] (c ∷ cs) p = p
      go (s ∷ ss) [] p = p
      go (s ∷ ss) (c ∷ cs) p = (stored-on s c p.0, go ss cs p.1)

  -- an answer that is kept comes first
  pub store-kept : (store : List Entry) (former : List Cached) (new : Entry) → d.observation.report.outcome ≡ Answered Kept → WasCacheAt setting gets.meets.asking.before x former → IsStored setting (d ∷ past) new (entry_got former gets)
      → IsStoreOf setting past store → IsStoreOf setting (d ∷ past) (put entry_key entry_size setting.limits.cache_bytes setting.limits.cache_entries new (marked_all changed_here store))
  store-kept store former new is was same s =
      let first = entry_got former gets in
      let bytes = setting.limits.cache_bytes in
      let entries = setting.limits.cache_entries in
      record {
        cached = put cached_key cached_size bytes entries first s.cached;
        is_cache = kept d x gets was.opening is was.was_opened was.opens was.is_cache s.is_cache;
        each = Pairs-put (IsStored setting (d ∷ past)) entry_key cached_key same-key entry_size cached_size bytes entries new first (marked_all changed_here store) s.cached same-size same (marked-on store s.cached s.each);
      }

  -- one that is too large removes the entry with its key
  pub store-too_large : (store : List Entry) → d.observation.report.outcome ≡ Answered TooLarge → IsStoreOf setting past store → IsStoreOf setting (d ∷ past) (others entry_key (key_asked gets) (marked_all changed_here store))
  store-too_large store is s =
      record { cached = others cached_key (key_asked gets) s.cached; is_cache = too_large d x gets is s.is_cache; each = Pairs-others (IsStored setting (d ∷ past)) entry_key cached_key same-key (key_asked gets) (marked_all changed_here store) s.cached (marked-on store s.cached s.each) }

  -- one that isn't stored leaves the entries, except for the marks
  pub store-marked : (store : List Entry) → leaves d.observation.report.outcome ≡ true → IsStoreOf setting past store → IsStoreOf setting (d ∷ past) (marked_all changed_here store)
  store-marked store leaving s = record { cached = s.cached; is_cache = otherwise d leaving s.is_cache; each = marked-on store s.cached s.each }

-- what accepts no answer, and moves nothing, leaves the store as it is
pub store-otherwise : (setting : Setting) (past : List Action) (store : List Entry) (d : Action) → leaves d.observation.report.outcome ≡ true → accepts_answer d.observation.report.outcome ≡ false → IsStoreOf setting past store → IsStoreOf setting (d ∷ past) store
store-otherwise setting past store d leaving none s = record { cached = s.cached; is_cache = otherwise d leaving s.is_cache; each = Pairs-weaken (IsStored setting past) (IsStored setting (d ∷ past)) store s.cached (stored-stays d none) s.each }

-- ---- what is found

-- the entry of the store for a key corresponds to the entry of the cache
pub found-cached : (setting : Setting) (history : List Action) (store : List Entry) (cached : List Cached) (key : CacheKey) (stored : Entry) → Pairs (IsStored setting history) store cached → of_key entry_key key store ≡ Some stored → IsEntryOf setting history cached key stored
found-cached setting history store cached key stored each found = go (of_key cached_key key cached) refl (subst (λ (s : Option Entry). Both (IsStored setting history) s (of_key cached_key key cached)) found (Pairs-of_key (IsStored setting history) entry_key cached_key same-key key store cached each))
  where
    go : (c : Option Cached) → of_key cached_key key cached ≡ c → Both (IsStored setting history) (Some stored) c → IsEntryOf setting history cached key stored
    go None e both = absurd both
    go (Some c) e both = record { entry = c; is_there = e; key_is = of_key-key cached_key key cached c e; stored_is = both }

-- the entry of the store for the entry of the cache with a key
pub record IsKeptIn (setting : Setting) (history : List Action) (store : List Entry) (key : CacheKey) (c : Cached) : Type 0 where
  pub entry : Entry
  pub is_there : of_key entry_key key store ≡ Some entry
  pub stored : IsStored setting history entry c

-- the entry of the cache for a key is in the store
pub cached-found : (setting : Setting) (history : List Action) (store : List Entry) (cached : List Cached) (key : CacheKey) (c : Cached) → Pairs (IsStored setting history) store cached → of_key cached_key key cached ≡ Some c → IsKeptIn setting history store key c
cached-found setting history store cached key c each found = go (of_key entry_key key store) refl (subst (λ (f : Option Cached). Both (IsStored setting history) (of_key entry_key key store) f) found (Pairs-of_key (IsStored setting history) entry_key cached_key same-key key store cached each))
  where
    go : (s : Option Entry) → of_key entry_key key store ≡ s → Both (IsStored setting history) s (Some c) → IsKeptIn setting history store key c
    go None e both = absurd both
    go (Some s) e both = record { entry = s; is_there = e; stored = both }

-- if the store has no entry for a key, the cache has none
pub none-found : (setting : Setting) (history : List Action) (store : List Entry) (cached : List Cached) (key : CacheKey) → Pairs (IsStored setting history) store cached → of_key entry_key key store ≡ None → of_key cached_key key cached ≡ None
none-found setting history store cached key each none = go (of_key cached_key key cached) refl (subst (λ (s : Option Entry). Both (IsStored setting history) s (of_key cached_key key cached)) none (Pairs-of_key (IsStored setting history) entry_key cached_key same-key key store cached each))
  where
    go : (c : Option Cached) → of_key cached_key key cached ≡ c → Both (IsStored setting history) None c → of_key cached_key key cached ≡ None
    go None e both = e
    go (Some c) e both = absurd both

-- the response that is stored for a key is the one that is kept for it
pub stored-kept : (setting : Setting) (history : List Action) (store : List Entry) (cached : List Cached) (key : CacheKey) → Pairs (IsStored setting history) store cached → option_map (λ (e : Entry). e.1.response) (of_key entry_key key store) ≡ kept_for key cached
stored-kept setting history store cached key each = go (of_key entry_key key store) (of_key cached_key key cached) (Pairs-of_key (IsStored setting history) entry_key cached_key same-key key store cached each)
  where
    go : (s : Option Entry) (c : Option Cached) → Both (IsStored setting history) s c → option_map (λ (e : Entry). e.1.response) s ≡ option_map (λ (k : Cached). k.response) c
    go None None both = refl
    go None (Some c) both = absurd both
    go (Some s) None both = absurd both
    go (Some s) (Some c) both = ap (λ (e : Entry). Some e.1.response) both.same

-- what is stored for a key is an entry with the key
pub stored-found : (key : CacheKey) (store : List Entry) (stored : Stored) → stored_for key store ≡ Some stored → of_key entry_key key store ≡ Some (key, stored)
stored-found key store stored found = go (of_key entry_key key store) refl found
  where
    go : (e : Option Entry) → of_key entry_key key store ≡ e → option_map (λ entry. entry.1) e ≡ Some stored → of_key entry_key key store ≡ Some (key, stored)
    go None is f = absurd cc
    go (Some e) is f =
        let its_key = of_key-key entry_key key store e is in
        let its_stored : e.1 ≡ stored = same_Some e.1 stored f in
        is ∙ (λ i. Some (its_key i, its_stored i))

-- a request that is answered from the cache moves the entry with its key to the front
pub store-hit : (setting : Setting) (past : List Action) (store : List Entry) (d : Action) (client : Endpoint) (request : Message) (target : Target) (stored : Entry) → d.observation.report.outcome ≡ Hit → Brings setting.limits.datagram client request d.observation.event → request_target setting.routes request ≡ Ok target → of_key entry_key (request_key target request) store ≡ Some stored
    → IsStoreOf setting past store → IsStoreOf setting (d ∷ past) (used entry_key (request_key target request) store)
store-hit setting past store d client request target stored is came to found s =
    let key = request_key target request in
    let f = found-cached setting past store s.cached key stored s.each found in
    let none : accepts_answer d.observation.report.outcome ≡ false = ap accepts_answer is in
    record {
      cached = used cached_key key s.cached;
      is_cache = hit d client request target f.entry is came to f.is_there s.is_cache;
      each = Pairs-weaken (IsStored setting past) (IsStored setting (d ∷ past)) (used entry_key key store) (used cached_key key s.cached) (stored-stays d none) (Pairs-used (IsStored setting past) entry_key cached_key same-key key store s.cached s.each);
    }

-- ---- limits

-- the stored entries, without marks
abbrev IsPlain : Entry → Cached → Type 0
IsPlain s c = s ≡ entry_of_cached c

plain-key : (s : Entry) (c : Cached) → IsPlain s c → entry_key s ≡ cached_key c
plain-key s c same = ap entry_key same

plain-size : (s : Entry) (c : Cached) → IsPlain s c → entry_size s ≡ cached_size c
plain-size s c same = ap entry_size same

-- the entries of a store, without marks, are those of the cache
plain-all : (store : List Entry) (cs : List Cached) → Pairs IsPlain store cs → store ≡ map entry_of_cached cs
plain-all [] [] p = refl
plain-all [] (c ∷ cs) p = absurd p
plain-all (s ∷ ss) [] p = absurd p
plain-all (s ∷ ss) (c ∷ cs) p = λ i. p.0 i ∷ plain-all ss cs p.1 i

-- the unmarked entries correspond to the cache
all-plain : (cs : List Cached) → Pairs IsPlain (map entry_of_cached cs) cs
all-plain [] = tt
all-plain (c ∷ cs) = (refl, all-plain cs)

-- the cache of a history is within the limits, and has at most one entry for a key
pub cache-within : (setting : Setting) (history : List Action) (cached : List Cached) → IsCacheOf setting history cached → IsStore (store_limits setting) (map entry_of_cached cached)
cache-within setting _ _ empty = record { distinct = refl; within_bytes = omega arith; within_entries = omega arith }
cache-within setting _ _ (kept {past = past} {cached = cs} {former = former} d x gets opening is was opens at c) =
    let limits = store_limits setting in
    let first = entry_got former gets in
    let same = plain-all _ _ (Pairs-put IsPlain entry_key cached_key plain-key entry_size cached_size limits.bytes limits.entries (entry_of_cached first) first (map entry_of_cached cs) cs plain-size refl (all-plain cs)) in
    subst (IsStore limits) same (IsStore-put limits (entry_of_cached first) (map entry_of_cached cs) (cache-within setting past cs c))
cache-within setting _ _ (too_large {past = past} {cached = cs} d x gets is c) =
    let same = plain-all _ _ (Pairs-others IsPlain entry_key cached_key plain-key (key_asked gets) (map entry_of_cached cs) cs (all-plain cs)) in
    subst (IsStore (store_limits setting)) same (IsStore-others (store_limits setting) (key_asked gets) (map entry_of_cached cs) (cache-within setting past cs c))
cache-within setting _ _ (hit {past = past} {cached = cs} d client request target entry is came to found c) =
    let key = request_key target request in
    let same = plain-all _ _ (Pairs-used IsPlain entry_key cached_key plain-key key (map entry_of_cached cs) cs (all-plain cs)) in
    subst (IsStore (store_limits setting)) same (IsStore-used (store_limits setting) key (map entry_of_cached cs) (cache-within setting past cs c))
cache-within setting _ _ (otherwise {past = past} {cached = cs} d leaving c) = cache-within setting past cs c

-- so it has no more entries and bytes than the store may have
pub cache-few : (setting : Setting) (history : List Action) (cached : List Cached) → IsCacheOf setting history cached → (length cached ≤ setting.limits.cache_entries) × (total cached_size cached ≤ setting.limits.cache_bytes)
cache-few setting history cached c =
    let within = cache-within setting history cached c in
    let plain = all-plain cached in
    let entries = within.within_entries in
    let bytes = within.within_bytes in (
      omega (arith, entries, Pairs-length IsPlain (map entry_of_cached cached) cached plain),
      omega (arith, bytes, Pairs-total IsPlain entry_size cached_size (map entry_of_cached cached) cached plain-size plain),
    )

-- and so is a store that corresponds to it
pub store-within : (setting : Setting) (history : List Action) (store : List Entry) → IsStoreOf setting history store → IsStore (store_limits setting) store
store-within setting history store s =
    let within = cache-within setting history s.cached s.is_cache in
    let plain = all-plain s.cached in
    record {
      distinct = Pairs-distinct (IsStored setting history) entry_key cached_key same-key store s.cached s.each ∙ sym (Pairs-distinct IsPlain entry_key cached_key plain-key (map entry_of_cached s.cached) s.cached plain) ∙ within.distinct;
      within_bytes = let bytes = within.within_bytes in omega (arith, bytes, Pairs-total (IsStored setting history) entry_size cached_size store s.cached same-size s.each, Pairs-total IsPlain entry_size cached_size (map entry_of_cached s.cached) s.cached plain-size plain);
      within_entries = let entries = within.within_entries in omega (arith, entries, Pairs-length (IsStored setting history) store s.cached s.each, Pairs-length IsPlain (map entry_of_cached s.cached) s.cached plain);
    }
