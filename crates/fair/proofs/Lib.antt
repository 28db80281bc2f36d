pub mod Fair
pub mod Logged
pub mod Examples
