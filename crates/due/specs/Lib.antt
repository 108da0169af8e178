pub mod Walk
pub mod Moment
pub mod Waits
