pub mod Steps
pub mod Rings
pub mod Settled
