pub mod Linear
pub mod Byte
pub mod Turns
pub mod Bytes
pub mod Settled
