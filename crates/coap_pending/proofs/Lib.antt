pub mod Tables
pub mod Sooner
pub mod ByNumber
pub mod Changes
pub mod Counts
pub mod Schedule
pub mod Giving
pub mod Timely
