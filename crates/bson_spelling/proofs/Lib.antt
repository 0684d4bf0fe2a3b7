pub mod Helds
pub mod Sizes
