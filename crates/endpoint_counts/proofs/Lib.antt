pub mod Orders
pub mod EndpointCounting
pub mod ByClient
pub mod Indexing
pub mod Firsts
pub mod Slotting
pub mod EndpointMaps
pub mod Fewer
