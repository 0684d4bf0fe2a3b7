pub mod Paths
pub mod Reach
pub mod Changes
pub mod Answers
