pub mod Back
pub mod Reading
pub mod Writing
pub mod Settled
