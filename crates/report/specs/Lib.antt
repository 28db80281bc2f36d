pub mod Report
pub mod Run
