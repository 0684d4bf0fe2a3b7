pub mod Replies
pub mod Ended
pub mod Carried
pub mod Attempts
