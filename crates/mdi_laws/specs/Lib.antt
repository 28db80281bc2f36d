pub mod WellFormed
pub mod Ignored
pub mod Typed
pub mod NoMatter
pub mod Accepted
pub mod RoundTrips
pub mod InTurn
