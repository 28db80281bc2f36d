pub mod Values
pub mod Laying
pub mod Numbers
pub mod Settled
