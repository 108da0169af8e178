mod Places
pub mod Playing
pub mod Starting
pub mod Waiting
pub mod Declines
pub mod Asked
pub mod Contracts
