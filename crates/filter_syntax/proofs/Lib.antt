pub mod Lookups
pub mod Types
pub mod Loops
pub mod Levels
