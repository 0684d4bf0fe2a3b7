pub mod Documents
pub mod InOrder
pub mod Parts
pub mod Loops
pub mod Contents
pub mod Messages
pub mod Fronts
pub mod Framing
