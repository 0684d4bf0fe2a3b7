pub mod Finds
pub mod Rows
pub mod Changes
pub mod Goes
pub mod Histories
