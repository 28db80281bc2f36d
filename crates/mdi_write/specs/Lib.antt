pub mod Packet
pub mod Answers
pub mod Rows
