pub mod Alike
pub mod Recency
pub mod Evictions
pub mod Marks
pub mod Groups
pub mod Kept
pub mod Pushing
pub mod Shown
