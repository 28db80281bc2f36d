pub mod Checks
pub mod Reading
pub mod Writing
pub mod Round
pub mod RoundTrip
pub mod Settled
