pub mod Answers
pub mod Entries
pub mod Readings
pub mod Runs
pub mod Setups
pub mod Texts
pub mod Told
pub mod Unpacked
