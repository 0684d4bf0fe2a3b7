pub mod Held
pub mod Step
pub mod Sound
pub mod Batches
pub mod Shown
pub mod Ran
