pub mod Blocks
pub mod Calls
pub mod Entries
pub mod Whole
pub mod Settled
pub mod Apart
