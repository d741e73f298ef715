pub mod Orders
pub mod Aging
pub mod Apart
pub mod Numbering
pub mod Sourcing
pub mod Shares
pub mod Kept
pub mod Passing
