pub mod Messages
pub mod Forms
pub mod Gaps
pub mod Answers
pub mod Changes
