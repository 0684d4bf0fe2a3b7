pub mod Parts
pub mod Tales
pub mod Going
