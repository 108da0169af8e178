pub mod Same
pub mod Said
pub mod Shown
