pub mod Finds
pub mod Goes
pub mod Histories
pub mod Gives
pub mod Prefixes
pub mod Entries
pub mod Idle
