pub mod Addresses
pub mod Failing
pub mod Systems
pub mod Udp
pub mod Values
