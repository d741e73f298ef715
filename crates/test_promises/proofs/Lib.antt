pub mod CachedReplies
pub mod Arriving
pub mod Fetching
pub mod Validating
pub mod Promising
pub mod Choosing
pub mod Aging
pub mod Differing
