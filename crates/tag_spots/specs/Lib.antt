pub mod Rows
pub mod Notes
