pub mod Days
pub mod Examples
pub mod Parts
pub mod Settled
pub mod Dates
