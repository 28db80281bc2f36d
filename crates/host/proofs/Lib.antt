pub mod Fresh
pub mod Numbers
pub mod Settled
