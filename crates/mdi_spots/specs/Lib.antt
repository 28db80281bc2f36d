pub mod Names
pub mod Table
pub mod Spotted
pub mod Streams
