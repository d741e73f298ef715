pub mod Messages
pub mod Options
pub mod Routes
pub mod Cache
