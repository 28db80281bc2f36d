pub mod Entries
pub mod State
pub mod Walk
pub mod Whole
