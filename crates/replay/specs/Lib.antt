pub mod Traced
pub mod Played
