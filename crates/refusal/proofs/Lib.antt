pub mod Numbers
pub mod Placed
pub mod Settled
pub mod Told
