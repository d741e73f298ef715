-- The cache of a history: which storable responses arrived in it, and in which order they are kept
-- (RFC 7252, 5.6 and 5.9.1). No table is named before the last part, which says what a store has.
use Rattle.std.specs.Prelude.{◌≡◌, ℕ, ◌<◌, Bool, true, false, List, [], ◌∷◌, Option, Some, None, Ok, option_map}
use Rattle.coap_message.specs.Message.{Message}
use Rattle.coap_endpoint.specs.declared.endpoint.Endpoint.{Endpoint}
use Rattle.coap_endpoint.specs.declared.target.Target.{Target}
use Rattle.coap_option.specs.Selection.{max_age_of, tags_of}
use Rattle.coap_target.specs.Request.{request_target}
use Rattle.coap_store.specs.declared.answer.Answer.{Answer}
use Rattle.coap_store.specs.declared.key.CacheKey.{CacheKey}
use Rattle.coap_store.specs.Entries as entries
use Rattle.coap_store.specs.Entries.{entry_key, entry_size}
use Rattle.coap_store.specs.Lists.{of_key, others, put, used}
use Rattle.coap_store.specs.Renewing.{tag_of, is_validated, renewed}
use Rattle.coap_store.specs.Showing.{is_cacheable}
use Rattle.coap_model.specs.declared.report.Outcome.{Outcome}
use Rattle.coap_model.specs.declared.report.Outcome.TheVariants.{Ignored, Rejected, Again, NoRecordRoom, Refused, Hit, Joined, Opened, Overloaded, NoId, Answered, Acked, SentRequest, Resent, GaveUp, Delivered, Idle}
use Rattle.coap_model.specs.declared.report.Storing.{Storing}
use Rattle.coap_model.specs.declared.report.Storing.TheVariants.{Kept, TooLarge, NoMemory, NotStored}
use Rattle.coap_model.specs.Setting.{Setting}
use Rattle.coap_model.specs.Keys.{request_key}
use Rattle.coap_forward.specs.Answers.{answer_of, fits, is_passed_on, passed_part}
use Rattle.coap_model.specs.History.{Action, Position, index, IsPositionOf, Brings, Opens, Gets}
use Rattle.coap_model.specs.Changed.{asked_of, key_asked, to_get, Unchanged, IsTold}
use Rattle.coap_model.specs.Pairs.{Pairs}

-- ---- what may be kept

-- a GET with this key was sent at one position, and its response arrived at the other; the target
-- wasn't changed between them
pub record IsFetched (setting : Setting) (key : CacheKey) (asking getting : Position) : Type 0 where
  pub exchange : ℕ
  pub gets : Gets setting exchange getting
  pub asking_is : gets.meets.asking ≡ asking
  pub method : to_get gets ≡ true
  pub asked_key : key_asked gets ≡ key
  pub passed : is_passed_on setting.limits.datagram true gets.meets.message ≡ true
  pub unchanged : Unchanged setting key.target asking getting.before

-- it may be kept: a 2.05 or an error of class 4 or 5, with a positive Max-Age
pub record IsLasting (response : Message) : Type 0 where
  pub code : is_cacheable response.code ≡ true
  pub max_age : 0 < max_age_of response

-- The response was obtained for this key: it arrived for a GET with the key, or it was obtained for
-- the key before, and a 2.03 that renews it arrived for a GET with its tag. Each renewal was
-- requested after what it renews had arrived.
pub data IsObtained (setting : Setting) (key : CacheKey) : Message → Position → Position
    → Type 0 where
  first_hand : {response : Message} {asking getting : Position}
      (fetched : IsFetched setting key asking getting)
      → response ≡ passed_part true fetched.gets.meets.message
      → IsLasting response
      → IsObtained setting key response asking getting
  validated : {response old : Message} {asking getting old_asking old_getting : Position}
      (fetched : IsFetched setting key asking getting)
      (tag : List ℕ)
      → IsObtained setting key old old_asking old_getting
      → IsPositionOf asking.before old_getting
      → tag_of old.options ≡ Some tag
      → tags_of (asked_of fetched.gets) ≡ tag ∷ []
      → is_validated old (passed_part true fetched.gets.meets.message) ≡ true
      → response ≡ renewed old (passed_part true fetched.gets.meets.message)
      → fits setting.limits.datagram response ≡ true
      → IsLasting response
      → IsObtained setting key response asking getting

-- ---- the cache

-- an entry of the cache: a response, with the positions where it was requested and where it arrived
pub record Cached : Type 0 where
  pub key : CacheKey
  pub response : Message
  pub asking : Position
  pub getting : Position

-- the entry of a store for it, with or without a mark
abbrev pub entry_marked : Bool → Cached → entries.Entry
entry_marked marked c = (
  c.key,
  record {
    response = c.response;
    asked = index c.asking;
    got_no = index c.getting;
    got = c.getting.action.observation.now;
    marked = marked;
  },
)

abbrev pub entry_of_cached : Cached → entries.Entry
entry_of_cached c = entry_marked false c

-- its key, and its size in bytes
abbrev pub cached_key : Cached → CacheKey
cached_key c = entry_key (entry_of_cached c)

abbrev pub cached_size : Cached → ℕ
cached_size c = entry_size (entry_of_cached c)

-- the limits of the store: its size in bytes and the number of its entries
abbrev pub store_limits : Setting → entries.Limits
store_limits setting =
    record { bytes = setting.limits.cache_bytes; entries = setting.limits.cache_entries }

-- a new entry is put in front, it replaces the one with its key, and what no longer fits is evicted
abbrev pub cached_with : Setting → Cached → List Cached → List Cached
cached_with setting new cached =
    put cached_key cached_size setting.limits.cache_bytes setting.limits.cache_entries new cached

-- the entry for a response that arrives at the newest position
abbrev pub cached_here : CacheKey → Message → Position → List Action → Action → Cached
cached_here key response asking past d =
    record {
      key = key;
      response = response;
      asking = asking;
      getting = record { before = past; action = d };
    }

abbrev pub leaves_stored : Storing → Bool
leaves_stored Kept = false
leaves_stored TooLarge = false
leaves_stored NoMemory = true
leaves_stored NotStored = true

-- a hit moves its entry, an answer that is kept is added, and one that is kept or too large removes
-- the old entry with its key; every other outcome leaves the cache as it is
abbrev pub leaves : Outcome → Bool
leaves Ignored = true
leaves Rejected = true
leaves Again = true
leaves NoRecordRoom = true
leaves (Refused code) = true
leaves Hit = false
leaves Joined = true
leaves Opened = true
leaves Overloaded = true
leaves NoId = true
leaves (Answered storing) = leaves_stored storing
leaves Acked = true
leaves SentRequest = true
leaves Resent = true
leaves GaveUp = true
leaves Delivered = true
leaves Idle = true

-- ---- answers

-- the response that is kept for a key
abbrev pub kept_for : CacheKey → List Cached → Option Message
kept_for key cached = option_map (λ c. c.response) (of_key cached_key key cached)

-- the response that a request with these tags may renew: the one kept for its key when its exchange
-- was opened. A forwarded GET only has a tag if it is the tag of that response.
abbrev pub copied : List (List ℕ) → CacheKey → List Cached → Option Message
copied [] key former = None
copied (tag ∷ tags) key former = kept_for key former

-- the answer that arrived there, if this was the cache when the exchange was opened
abbrev pub answer_got :
    {setting : Setting} {x : ℕ} {p : Position} → List Cached → Gets setting x p → Answer
answer_got {setting = setting} {p = p} former gets =
    answer_of setting.limits.datagram (to_get gets)
    (copied (tags_of (asked_of gets)) (key_asked gets) former) p.action.observation.now
    gets.meets.message

-- its entry, if it is kept
abbrev pub entry_got :
    {setting : Setting} {x : ℕ} {past : List Action} {d : Action} → List Cached
    → Gets setting x (record { before = past; action = d }) → Cached
entry_got {past = past} {d = d} former gets =
    cached_here (key_asked gets) (answer_got former gets).message gets.meets.asking past d

-- ---- the cache of a history

-- The cache of a history, the most recently used first. There is a case for each way in which an
-- entry moves.
pub data IsCacheOf (setting : Setting) : List Action → List Cached → Type 0 where
  empty : IsCacheOf setting [] []
  -- an answer is kept: it is put in front. What it renews was in the cache when its exchange was
  -- opened, and may have been evicted since.
  kept : {past : List Action} {cached former : List Cached} (d : Action) (x : ℕ)
      (gets : Gets setting x (record { before = past; action = d })) (opening : Position)
      → d.observation.report.outcome ≡ Answered Kept
      → IsPositionOf gets.meets.asking.before opening
      → Opens x opening
      → IsCacheOf setting opening.before former
      → IsCacheOf setting past cached
      → IsCacheOf setting (d ∷ past) (cached_with setting (entry_got former gets) cached)
  -- an answer alone is larger than the limit: the entry with its key is removed
  too_large : {past : List Action} {cached : List Cached} (d : Action) (x : ℕ)
      (gets : Gets setting x (record { before = past; action = d }))
      → d.observation.report.outcome ≡ Answered TooLarge
      → IsCacheOf setting past cached
      → IsCacheOf setting (d ∷ past) (others cached_key (key_asked gets) cached)
  -- a request is answered from the cache: the entry with its key moves to the front
  hit : {past : List Action} {cached : List Cached} (d : Action) (client : Endpoint)
      (request : Message) (target : Target) (entry : Cached)
      → d.observation.report.outcome ≡ Hit
      → Brings setting.limits.datagram client request d.observation.event
      → request_target setting.routes request ≡ Ok target
      → of_key cached_key (request_key target request) cached ≡ Some entry
      → IsCacheOf setting past cached
      → IsCacheOf setting (d ∷ past) (used cached_key (request_key target request) cached)
  -- every other outcome leaves the cache as it is
  otherwise : {past : List Action} {cached : List Cached} (d : Action)
      → leaves d.observation.report.outcome ≡ true
      → IsCacheOf setting past cached
      → IsCacheOf setting (d ∷ past) cached

-- this was the cache when the exchange with this number was opened
pub record WasCacheAt (setting : Setting) (past : List Action) (x : ℕ) (former : List Cached)
    : Type 0 where
  pub opening : Position
  pub was_opened : IsPositionOf past opening
  pub opens : Opens x opening
  pub is_cache : IsCacheOf setting opening.before former

-- the element is the first of the list
abbrev pub StandsFirst : {X : Type 0} → X → List X → Type 0
StandsFirst x [] = ⊥
StandsFirst x (y ∷ ys) = y ≡ x

-- ---- a store

-- an entry of the store corresponds to the entry of the cache, and is marked exactly if its target
-- was changed since it was requested
pub record IsStored (setting : Setting) (history : List Action) (stored : entries.Entry)
    (c : Cached)
    : Type 0 where
  pub same : stored ≡ entry_marked stored.1.marked c
  pub was_asked : IsPositionOf history c.asking
  pub told : IsTold stored.1.marked setting c.key.target c.asking history

-- the store corresponds to the cache of the history, entry by entry
pub record IsStoreOf (setting : Setting) (history : List Action) (store : List entries.Entry)
    : Type 0 where
  pub cached : List Cached
  pub is_cache : IsCacheOf setting history cached
  pub each : Pairs (IsStored setting history) store cached

-- an entry that was obtained in the history
pub record WasObtained (setting : Setting) (history : List Action) (c : Cached) : Type 0 where
  pub was_asked : IsPositionOf history c.asking
  pub was_got : IsPositionOf history c.getting
  pub obtained : IsObtained setting c.key c.response c.asking c.getting

-- what is stored for a key corresponds to the cache's entry with the key
pub record IsEntryOf
    (setting : Setting) (history : List Action) (cached : List Cached) (key : CacheKey)
    (stored : entries.Entry)
    : Type 0 where
  pub entry : Cached
  pub is_there : of_key cached_key key cached ≡ Some entry
  pub key_is : entry.key ≡ key
  pub stored_is : IsStored setting history stored entry
