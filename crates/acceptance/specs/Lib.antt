pub mod Examples
pub mod Wrong
