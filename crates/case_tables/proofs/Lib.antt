pub mod Distinct
pub mod Bounds
