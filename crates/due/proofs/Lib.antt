pub mod Walking
pub mod Steps
pub mod Waits
pub mod Links
