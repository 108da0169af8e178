pub mod Laws
pub mod Chosen
pub mod Links
pub mod Fixed
pub mod Forgotten
pub mod Examples
