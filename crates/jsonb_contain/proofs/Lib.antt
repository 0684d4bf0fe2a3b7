pub mod Again
mod Conds
mod Events
mod Levels
pub mod Orders
pub mod Places
mod Risen
mod Wholes
