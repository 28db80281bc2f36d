pub mod Ways
pub mod Writing
pub mod Back
pub mod Settled
