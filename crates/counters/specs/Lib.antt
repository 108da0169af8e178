pub mod Counters
pub mod Marks
