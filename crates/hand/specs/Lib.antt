pub mod Settings
pub mod Hand
pub mod Served
pub mod Spares
