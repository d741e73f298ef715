pub mod Requests
pub mod Times
pub mod Origins
pub mod Maps
pub mod Openings
pub mod Search
