pub mod Putting
pub mod Ways
pub mod Building
pub mod Cutting
pub mod RoundTrip
pub mod RoundTripHolds
pub mod Settled
