pub mod Tally
pub mod Visits
pub mod Earliest
pub mod Claim
pub mod Driven
pub mod Unmoved
pub mod Independent
