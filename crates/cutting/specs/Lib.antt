pub mod Cutting
pub mod Records
pub mod Gather
pub mod Sign
