pub mod Few
pub mod Lookups
pub mod Moved
pub mod Reading
pub mod Twice
