pub mod Answers
pub mod Recording
pub mod Walk
pub mod Walked
