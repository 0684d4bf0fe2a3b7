pub mod Tests
pub mod Faults
pub mod Parts
pub mod Bytes
