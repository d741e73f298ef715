pub mod ListStores
pub mod Marking
