-- What exchanges are looked up by: indexes that are kept in step with a table.
use Rattle.std.specs.Prelude.{◌≡◌, ℕ, ◌&&◌, ◌||◌, Bool, true, not, if◌then◌else◌, nat_le, map, List, Option, Some, None}
use Rattle.coap_pending.specs.declared.exchange.Exchange.{Exchange}
use Rattle.coap_pending.specs.declared.exchange.Sending.{Sending}
use Rattle.coap_exchange.specs.declared.index.Index.{Index}
use Rattle.coap_exchange.specs.declared.index.ExchangeKeys.{ExchangeKeys}
use Rattle.coap_exchange.specs.declared.index.Sought.{Sought}
use Rattle.coap_exchange.specs.declared.index.Sought.TheVariants.{SentAs, Joinable, Queued}
use Rattle.endpoint_counts.specs.Digests.{digest_of_endpoint}
use Rattle.coap_store.specs.Digests.{digest_of_key, digest_of_target}
use Rattle.endpoint_counts.specs.IndexOf.{key_at, CanRekey, HasRekeyed, IsIndexOf}
use Rattle.coap_pending.specs.Exchanges.{answer_at, is_acked, is_blocked, is_done, is_joinable, is_missing, is_queued, is_sent, was_sent_as, is_queued_to}
use Rattle.ordered_index.specs.Ordered.{Pair, empty_index, is_in, seeded_index}
use Rattle.coap_pending.specs.Table.{Numbered, IsRising, item_at, passes}

-- ---- what an exchange is looked up by

abbrev pub id_in : Option Sending → Option ℕ
id_in None = None
id_in (Some s) = Some s.id

-- the Message ID with which it was sent
abbrev pub id_of : Exchange → Option ℕ
id_of x = id_in x.sending

-- the moment of its admission, until its answer has come
abbrev pub opening_of : Exchange → Option ℕ
opening_of x = if is_done x then None else Some x.admitted

abbrev pub end_in : Option Sending → Option ℕ
end_in None = None
end_in (Some s) = Some s.timer.due

-- the end of the current timeout
abbrev pub end_of : Exchange → Option ℕ
end_of x = if is_sent x then end_in x.sending else None

-- the digest of its endpoint, while it is queued
abbrev pub queue_of : Exchange → Option ℕ
queue_of x = if is_queued x then Some (digest_of_endpoint x.key.target.at) else None

-- the digest of the cache key of a GET, until it is tainted or its answer has come
abbrev pub cache_key_of : ℕ → Exchange → Option ℕ
cache_key_of secret x =
    if x.is_get && (not x.tainted && is_missing (answer_at x))
    then Some (digest_of_key secret x.key)
    else None

-- the digest of its target, from when it is sent until it is tainted or its answer has come
abbrev pub target_of : ℕ → Exchange → Option ℕ
target_of secret x =
    if not x.tainted && (is_sent x || is_acked x) then Some (digest_of_target secret x.key.target)
    else None

-- what it is looked up by, if there is one, where digests are made with this secret
abbrev pub keys_at : ℕ → Option Exchange → ExchangeKeys
keys_at secret found =
    record {
      id = key_at id_of found;
      opening = key_at opening_of found;
      end = key_at end_of found;
      queue = key_at queue_of found;
      cache_key = key_at (cache_key_of secret) found;
      target = key_at (target_of secret) found;
    }

pub record AreIndexed (items : List (Numbered Exchange)) (limit : ℕ) (index : Index) : Type 0 where
  pub rising : IsRising 0 items
  pub ids : IsIndexOf id_of items limit index.ids
  pub openings : IsIndexOf opening_of items limit index.openings
  pub ends : IsIndexOf end_of items limit index.ends
  pub queues : IsIndexOf queue_of items limit index.queues
  pub cache_keys : IsIndexOf (cache_key_of index.secret) items limit index.cache_keys
  pub targets : IsIndexOf (target_of index.secret) items limit index.targets

-- nothing is looked up yet
abbrev pub empty_indexes : ℕ → ℕ → Index
empty_indexes secret limit =
    record {
      secret = secret;
      ids = seeded_index secret limit;
      openings = empty_index limit;
      ends = empty_index limit;
      queues = seeded_index secret limit;
      cache_keys = seeded_index secret limit;
      targets = seeded_index secret limit;
    }

-- what isn't in order is spread by this seed, with which digests are made, too
pub record IsSpread (seed : ℕ) (index : Index) : Type 0 where
  pub digests : index.secret ≡ seed
  pub ids : index.ids.seed ≡ seed
  pub queues : index.queues.seed ≡ seed
  pub cache_keys : index.cache_keys.seed ≡ seed
  pub targets : index.targets.seed ≡ seed

pub record CanRekeyAll (index : Index) (number : ℕ) (was is : ExchangeKeys) : Type 0 where
  pub ids : CanRekey index.ids number was.id is.id
  pub openings : CanRekey index.openings number was.opening is.opening
  pub ends : CanRekey index.ends number was.end is.end
  pub queues : CanRekey index.queues number was.queue is.queue
  pub cache_keys : CanRekey index.cache_keys number was.cache_key is.cache_key
  pub targets : CanRekey index.targets number was.target is.target

pub record HaveRekeyed (old new : Index) (number : ℕ) (was is : ExchangeKeys) : Type 0 where
  pub secret : new.secret ≡ old.secret
  pub ids : HasRekeyed old.ids new.ids number was.id is.id
  pub openings : HasRekeyed old.openings new.openings number was.opening is.opening
  pub ends : HasRekeyed old.ends new.ends number was.end is.end
  pub queues : HasRekeyed old.queues new.queues number was.queue is.queue
  pub cache_keys : HasRekeyed old.cache_keys new.cache_keys number was.cache_key is.cache_key
  pub targets : HasRekeyed old.targets new.targets number was.target is.target

-- ---- what is looked for

abbrev pub is_met : Sought → Exchange → Bool
is_met (SentAs at id now) = was_sent_as at id now
is_met (Joinable key) = is_joinable key.now
is_met (Queued at) = is_queued_to at

-- the index has the numbers of the items that pass, under this key
abbrev pub AreListed : {A : Type 0} → (A → Bool) → ℕ → List (Numbered A) → List Pair → Type 0
AreListed test key items pairs =
    (n : ℕ) → passes test (item_at n items) ≡ true → is_in (key, n) pairs ≡ true

-- ---- what is due

-- when a queued exchange gets its turn: at its admission, if it isn't blocked
abbrev pub turn_among : ℕ → List (Numbered Exchange) → Exchange → Option ℕ
turn_among nstart exchanges x =
    if is_queued x && not (is_blocked nstart exchanges x) then Some x.admitted else None

-- ---- changing the items one by one

-- the items numbered up to this have changed
abbrev pub changed_to : {A : Type 0} → ℕ → (A → A) → List (Numbered A) → List (Numbered A)
changed_to number change items =
    map (λ x. if nat_le x.0 number then (x.0, change x.1) else x) items
