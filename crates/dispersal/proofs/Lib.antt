pub mod Register
pub mod Answers
pub mod Sequence
pub mod Twice
pub mod Settled
