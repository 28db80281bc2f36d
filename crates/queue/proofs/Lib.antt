pub mod Sums
pub mod Faults
pub mod Pass
pub mod Sending
pub mod Taken
pub mod Keep
pub mod Settled
