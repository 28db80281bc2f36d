pub mod Rows
pub mod Search
pub mod Pass
pub mod Walk
pub mod Names
pub mod Settled
