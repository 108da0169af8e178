pub mod Lists
pub mod Watching
pub mod ScanLaws
pub mod Walk
pub mod Limits
pub mod Written
