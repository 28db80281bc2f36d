pub mod Parts
pub mod Covering
