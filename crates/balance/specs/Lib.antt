pub mod History
pub mod Balance
