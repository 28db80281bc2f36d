pub mod Channel
pub mod Bounds
pub mod Answers
