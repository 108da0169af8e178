pub mod Report
pub mod Feed
pub mod Sums
pub mod Digits
