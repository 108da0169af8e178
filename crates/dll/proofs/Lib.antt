pub mod Fixed
pub mod Examples
