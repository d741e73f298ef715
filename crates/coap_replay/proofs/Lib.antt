pub mod Asking
pub mod Causes
pub mod Replaying
pub mod AllLines
pub mod Telling
