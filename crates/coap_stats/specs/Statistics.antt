-- All statistics of a proxy.
use Rattle.std.specs.Prelude.{◌≡◌, ℕ, ◌+◌, length}
use Rattle.coap_target.specs.declared.routes.Routes.{Routes}
use Rattle.coap_core.specs.Told.{Told}
use Rattle.coap_stats.specs.Tally as tally
use Rattle.coap_stats.specs.Turns as turns
use Rattle.coap_stats.specs.declared.statistics.Statistics.{Statistics}
pub use Rattle.coap_stats.specs.Tally.{no_tally}
pub use Rattle.coap_counts.specs.Maps.{no_ways}
pub use Rattle.coap_counts.specs.Openings.{no_openings}
pub use Rattle.coap_counts.specs.Origins.{no_origins}
pub use Rattle.coap_store.specs.Evicting.{no_evictions}
pub use Rattle.coap_core.specs.Holders.{nobody}

-- how many origins have counts of their own: as many as there are maps, and 256 others
abbrev pub origins_counted : Routes → ℕ
origins_counted routes = tally.capped (length routes.maps + 256)

-- ---- turns

-- Statistics were told of a turn: each count is what its definition says.
pub record Sees (before : Statistics) (t : Told) (after : Statistics) : Type 0 where
  pub tally : after.tally ≡ tally.with_told t before.tally
  pub maps : after.maps ≡ turns.with_ways t before.maps
  pub origins : after.origins ≡ turns.with_origins t before.origins
  pub openings : after.openings ≡ turns.with_openings t before.openings
