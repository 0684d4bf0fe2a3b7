pub mod Cases
pub mod Refusals
pub mod Types
pub mod Pinned
