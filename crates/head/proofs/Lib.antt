pub mod Whole
pub mod Laws
pub mod Each
