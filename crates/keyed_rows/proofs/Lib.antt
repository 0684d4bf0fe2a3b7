mod Places
pub mod Finds
mod Lasts
pub mod Edits
mod Kept
