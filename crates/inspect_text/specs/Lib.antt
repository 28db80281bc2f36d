pub mod Inspect
pub mod Break
