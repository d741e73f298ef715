pub mod Writing
pub mod Logging
