pub mod Blocks
pub mod Counts
pub mod Needs
pub mod Settled
