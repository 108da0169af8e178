pub mod Starting
pub mod Begun
