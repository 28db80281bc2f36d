pub mod Packet
pub mod Head
pub mod Calls
pub mod RoundTrip
