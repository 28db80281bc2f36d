pub mod Run
pub mod Once
pub mod Takeover
pub mod Holds
pub mod Own
