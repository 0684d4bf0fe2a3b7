pub mod Named
pub mod Listed
pub mod Fitting
pub mod Appended
pub mod Ended
pub mod Totals
pub mod Shown
