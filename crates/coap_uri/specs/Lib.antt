pub mod Answer
pub mod Address
pub mod Plain
pub mod Uri
pub mod Uris
