pub mod Answers
pub mod Filling
pub mod Walk
pub mod Whole
pub mod Walked
pub mod Window
pub mod Settled
