pub mod Numbered
pub mod Items
pub mod Executing
mod Passing
mod Starved
mod Sending
mod Readings
mod Writes
mod Ids
