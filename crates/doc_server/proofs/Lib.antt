pub mod Growth
pub mod Scripts
pub mod Conversation
pub mod Histories
pub mod Whole
pub mod Sure
