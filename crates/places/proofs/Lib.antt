pub mod Placing
pub mod Covers
pub mod Examples
pub mod Settled
