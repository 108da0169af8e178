pub mod Texts
pub mod Styles
pub mod Answers
pub mod Heads
pub mod Shows
pub mod Why
pub mod Moves
