pub mod Examples
pub mod Rejected
pub mod RejectedCalls
pub mod RejectedCounts
pub mod RejectedReader
pub mod RejectedReceiver
