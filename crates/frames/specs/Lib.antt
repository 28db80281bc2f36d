pub mod Frames
pub mod RoundTrip
pub mod Ready
