-- What the tables of a core keep to after each step.
use Rattle.std.specs.Prelude.{◌≤◌, length}
use Rattle.coap_dedup.specs.Records.{living_at}
use Rattle.coap_endpoint.specs.declared.endpoint.Endpoint.{Endpoint}
use Rattle.coap_store.specs.Entries.{entry_size}
use Rattle.coap_store.specs.Lists.{total}
use Rattle.coap_model.specs.Held.{held, most_held}
use Rattle.coap_model.specs.State.{State, client_counts}

-- The tables are within their limits, those that clients share and those of each client, and what
-- they hold is within the bound on bytes.
pub record AreWithinLimits (w : State) : Type 0 where
  pub exchanges : length w.exchanges ≤ w.setting.limits.exchanges
  pub waiters : length w.waiters ≤ w.setting.limits.waiters
  pub con_records : length (living_at w.last w.con_records) ≤ w.setting.limits.con_records
  pub non_records : length (living_at w.last w.non_records) ≤ w.setting.limits.non_records
  pub client_exchanges :
      (client : Endpoint)
      → (client_counts w client).exchanges ≤ w.setting.limits.client_exchanges
  pub client_waiters :
      (client : Endpoint) → (client_counts w client).waiters ≤ w.setting.limits.client_waiters
  pub client_con_records :
      (from : Endpoint)
      → (client_counts w from).con_records ≤ w.setting.limits.client_con_records
  pub client_non_records :
      (from : Endpoint)
      → (client_counts w from).non_records ≤ w.setting.limits.client_non_records
  pub entries : length w.store ≤ w.setting.limits.cache_entries
  pub cached_bytes : total entry_size w.store ≤ w.setting.limits.cache_bytes
  pub held : held w ≤ most_held w.setting.limits
