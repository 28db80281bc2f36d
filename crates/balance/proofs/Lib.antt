pub mod Steps
pub mod Sums
pub mod Held
pub mod Gathered
pub mod Balance
pub mod Nulls
pub mod Examples
