pub mod Clean
pub mod MaxAges
pub mod Passing
pub mod Picking
pub mod Tails
pub mod Surveying
