pub mod Names
pub mod Ids
