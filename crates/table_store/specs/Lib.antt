pub mod Found
pub mod Kept
pub mod Ran
pub mod Edits
pub mod Drops
pub mod Loading
pub mod LoadingSteps
pub mod LoadingLaws
