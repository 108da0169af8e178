pub mod Head
pub mod Places
pub mod Words
pub mod Written
