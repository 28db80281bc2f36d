pub mod Empty
pub mod Ways
pub mod Wraps
pub mod Settled
pub mod Succession
