use Rattle.std.proofs.Common.{◌≡◌, Bool, List, Some, ap, ◌∙◌}
use Rattle.coap_store.specs.declared.key.CacheKey.{CacheKey}
use Rattle.coap_store.specs.Entries.{Entry, entry_key, entry_size}
use Rattle.coap_store.specs.Lists.{of_key}
use Rattle.coap_model.specs.Setting.{Setting}
use Rattle.coap_model.specs.History.{Action}
use Rattle.coap_model.specs.Changed.{IsTold}
use Rattle.coap_model.specs.Cached.{Cached, cached_key, cached_size, entry_marked, IsStored, IsStoreOf}
use Rattle.coap_model.proofs.Stores.{found-cached, cached-found, none-found, stored-found, store-within}
use Rattle.coap_model.proofs.RelatedLists.{Pairs-length, Pairs-total}
use Rattle.coap_model.proofs.cache_laws.stores_have_what_caches_have.Goals as goal

-- the entry of the cache for a key is in the store, with its mark
kept-there : (setting : Setting) (history : List Action) (store : List Entry) (s : IsStoreOf setting history store) (key : CacheKey) (entry : Cached) → of_key cached_key key s.cached ≡ Some entry
    → (marked : Bool) × (of_key entry_key key store ≡ Some (entry_marked marked entry)) × IsTold marked setting entry.key.target entry.asking history
kept-there setting history store s key entry found =
    let k = cached-found setting history store s.cached key entry s.each found in
    (k.entry.1.marked, k.is_there ∙ ap Some k.stored.same, k.stored.told)

pub returns : goal.returns
returns c =
    record {
      found = λ setting history store s key stored has. found-cached setting history store s.cached key (key, stored) s.each (stored-found key store stored has);
      there = kept-there;
      nothing = λ setting history store s key. none-found setting history store s.cached key s.each;
      bytes = λ setting history store s. Pairs-total (IsStored setting history) entry_size cached_size store s.cached (λ e c is. ap entry_size is.same) s.each;
      entries = λ setting history store s. Pairs-length (IsStored setting history) store s.cached s.each;
      within = store-within;
    }
