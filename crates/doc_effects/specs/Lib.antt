pub mod Rows
pub mod Replies
pub mod Deeds
pub mod Outcomes
pub mod Edited
