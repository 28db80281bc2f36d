pub mod Answers
pub mod Following
pub mod Follows
pub mod Next
pub mod RoundTrip
pub mod SameUtco
pub mod Stamps
