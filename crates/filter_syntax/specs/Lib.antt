pub mod Candidates
pub mod Meaning
pub mod Operands
pub mod Operators
pub mod Reading
pub mod Told
pub mod Answers
