pub mod Distinct
pub mod Kept
