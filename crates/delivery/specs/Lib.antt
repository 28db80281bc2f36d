pub mod Delivered
pub mod Whole
pub mod Loss
pub mod Delivery
pub mod Dropped
pub mod Flow
