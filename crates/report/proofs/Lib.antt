pub mod Prints
pub mod Ways
pub mod Settled
