pub mod Table
pub mod Timers
pub mod Exchanges
pub mod Due
pub mod Ids
pub mod Waiters
pub mod Examples
