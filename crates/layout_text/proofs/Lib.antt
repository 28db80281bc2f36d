pub mod Lines
pub mod Ways
pub mod Examples
pub mod Settled
