pub mod Items
pub mod Ways
pub mod Settled
