pub mod Tables
pub mod Body
pub mod Meaning
pub mod Refusal
pub mod Told
