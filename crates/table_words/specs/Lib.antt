pub mod Tables
pub mod Sound
pub mod Step
pub mod Called
pub mod Kept
