pub mod Asking
pub mod Tails
