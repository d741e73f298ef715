pub mod Given
pub mod Stats
pub mod Driven
pub mod Memory
pub use Rattle.coap_core.specs.Told
pub use Rattle.coap_core.specs.Watched
