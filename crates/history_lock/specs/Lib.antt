pub mod Places
pub mod Legal
pub mod Logged
pub mod Rule
pub mod Steps
pub mod Seats
pub mod Parts
