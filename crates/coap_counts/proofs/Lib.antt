pub mod Searching
pub mod Stepping
