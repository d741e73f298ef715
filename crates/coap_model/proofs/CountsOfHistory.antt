-- The counts of a proxy's store and records agree with the history.
use Rattle.std.proofs.Common.{◌≡◌, List, length, ap, ◌∙◌, arith}
use Rattle.coap_message.specs.declared.kind.Kind.{Kind}
use Rattle.coap_endpoint.specs.declared.endpoint.Endpoint.{Endpoint}
use Rattle.coap_dedup.specs.Lists.{count_from}
use Rattle.coap_dedup.specs.Records.{Records, living_at, living_of}
use Rattle.coap_store.specs.Entries.{Entry, entry_size}
use Rattle.coap_store.specs.Lists.{total}
use Rattle.coap_model.specs.Setting.{Setting}
use Rattle.coap_model.specs.State.{State}
use Rattle.coap_model.specs.History.{Action}
use Rattle.coap_model.specs.Remembered.{remembered_at, remembered_of}
use Rattle.coap_model.specs.Cached.{Cached, cached_size, IsCacheOf, IsStored}
use Rattle.coap_model.specs.Carries.{Bears, AreRemembered}
use Rattle.coap_model.proofs.Cached.{cache-unique}
use Rattle.coap_model.proofs.RelatedLists.{Pairs-length, Pairs-total}

-- the store has as many entries as the cache of the actions
pub store-entries : (actions : List Action) (w : State) (cached : List Cached) → Bears actions w → IsCacheOf w.setting actions cached → length w.store ≡ length cached
store-entries actions w cached c is =
    Pairs-length (IsStored w.setting actions) w.store c.store.cached c.store.each ∙ ap length (cache-unique w.setting actions c.store.cached cached c.store.is_cache is)

-- a stored entry has the size of the entry of the cache, marked or not
same-size : (setting : Setting) (history : List Action) (e : Entry) (c : Cached) → IsStored setting history e c → entry_size e ≡ cached_size c
same-size setting history e c s = ap entry_size s.same

-- and the store has as many bytes
pub store-bytes : (actions : List Action) (w : State) (cached : List Cached) → Bears actions w → IsCacheOf w.setting actions cached → total entry_size w.store ≡ total cached_size cached
store-bytes actions w cached c is =
    Pairs-total (IsStored w.setting actions) entry_size cached_size w.store c.store.cached (same-size w.setting actions) c.store.each ∙ ap (total cached_size) (cache-unique w.setting actions c.store.cached cached c.store.is_cache is)

-- the number of living records is the number of messages that are still remembered
pub records-living : (actions : List Action) (w : State) (kind : Kind) (records : Records) → Bears actions w → AreRemembered w.setting actions kind records → length (living_at w.last records) ≡ length (remembered_at kind w.last actions)
records-living actions w kind records c are = let last = c.clock.last in ap length (are.same w.last (omega arith))

-- and so it is for those of one endpoint
pub records-own : (actions : List Action) (w : State) (kind : Kind) (records : Records) (from : Endpoint) → Bears actions w → AreRemembered w.setting actions kind records → living_of from w.last records ≡ remembered_of from kind w.last actions
records-own actions w kind records from c are = let last = c.clock.last in ap (count_from from) (are.same w.last (omega arith))
