pub mod Texts
pub mod Transitions
pub mod Positions
