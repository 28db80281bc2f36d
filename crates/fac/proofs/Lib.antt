pub mod Fits
pub mod Ways
pub mod Back
pub mod Settled
