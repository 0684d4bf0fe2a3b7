pub mod Runs
pub mod Inserts
pub mod Effects
pub mod Turned
pub mod Own
pub mod Ids
