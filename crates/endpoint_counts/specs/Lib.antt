pub mod Digests
pub mod DigestedEndpointForm
pub mod IndexOf
pub mod Slots
pub mod Endpoints
pub mod Clients
