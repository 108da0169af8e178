pub mod PartLaws
pub mod Turns
pub mod Handled
