pub mod Spares
pub mod Fair
pub mod Logged
