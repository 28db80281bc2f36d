pub mod State
pub mod Answers
pub mod Load
pub mod Frame
pub mod Kept
pub mod Rings
pub mod Private
