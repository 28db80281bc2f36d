pub mod Turned
pub mod Calls
pub mod Settled
