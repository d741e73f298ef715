pub mod Lifetimes
pub mod Lists
pub mod Records
pub mod Seen
pub mod Keys
pub mod Indexing
pub mod Sources
pub mod Examples
