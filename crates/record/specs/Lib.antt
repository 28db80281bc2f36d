pub mod Records
pub mod Succession
