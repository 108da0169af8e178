pub mod Positions
pub mod Form
