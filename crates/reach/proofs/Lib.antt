pub mod Mapped
pub mod Reaching
pub mod Fixed
pub mod Digits
