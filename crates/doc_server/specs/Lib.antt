pub mod Talk
pub mod Ending
pub mod Steps
pub mod Program
pub mod Pipe
