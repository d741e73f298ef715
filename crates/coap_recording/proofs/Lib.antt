pub mod Adding
pub mod Heading
pub mod Recorded
pub mod Reading
pub mod Replaying
