pub mod Receiving
pub mod Fixed
