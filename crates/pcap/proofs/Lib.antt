pub mod InParts
pub mod OptionLaws
pub mod Stays
pub mod Steps
