pub mod Turns
pub mod Parts
pub mod Pieces
pub mod Settled
pub mod Told
