pub mod Conflicts
pub mod Operands
pub mod Operators
pub mod Reading
pub mod After
pub mod Told
pub mod Answers
