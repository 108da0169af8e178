pub mod Partners
pub mod Walks
