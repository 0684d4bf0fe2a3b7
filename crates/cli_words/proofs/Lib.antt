pub mod Pipe
pub mod Refused
