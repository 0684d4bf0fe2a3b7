pub mod Replies
pub mod Small
pub mod Written
