pub mod Ordered
pub mod Hashed
pub mod Chains
