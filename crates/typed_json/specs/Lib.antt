pub mod Plain
pub mod Row
pub mod Leaf
pub mod Reading
pub mod Typed
pub mod Laws
