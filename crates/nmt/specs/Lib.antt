pub mod Resets
pub mod Nmt
pub mod Table
