pub mod Endpoint
pub mod Order
pub mod Equality
pub mod Target
pub mod Hashing
pub mod Alike
pub mod Seeding
