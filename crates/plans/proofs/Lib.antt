pub mod Ways
pub mod Told
pub mod Settled
