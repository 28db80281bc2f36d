pub mod Answers
pub mod Bytes
pub mod WellFormed
pub mod AnnexC
pub mod RoundTrip
