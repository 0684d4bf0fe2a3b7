pub mod Neighbours
pub mod Same
