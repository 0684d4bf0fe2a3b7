pub mod Limits
pub mod Stream
pub mod Reading
pub mod Front
pub mod Reply
