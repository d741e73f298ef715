pub mod Driving
pub mod Turning
