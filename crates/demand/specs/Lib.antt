pub mod Bytes
pub mod Run
pub mod Log
pub mod Condition
pub mod Reported
pub mod Stream
pub mod Within
