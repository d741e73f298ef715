pub mod Ordering
pub mod Buffering
pub mod Hashing
pub mod Chaining
pub mod Counting
