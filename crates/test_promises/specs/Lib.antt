pub mod Replies
pub mod Fetches
pub mod Validations
pub mod Schedules
pub mod Promises
pub mod Ages
pub mod Shares
