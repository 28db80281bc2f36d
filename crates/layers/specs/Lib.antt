pub mod KeptRun
pub mod Run
pub mod Rings
pub mod Counts
pub mod Holds
