pub mod Pushed
pub mod Law
