pub mod Forms
pub mod Gaps
pub mod Tokens
pub mod Observing
pub mod Values
pub mod Tagging
pub mod Locations
