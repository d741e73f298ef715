pub mod Indexing
pub mod Recent
