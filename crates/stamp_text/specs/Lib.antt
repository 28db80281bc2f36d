pub mod Date
pub mod Stamp
