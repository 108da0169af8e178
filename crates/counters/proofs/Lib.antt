pub mod ByKind
pub mod Balance
pub mod Examples
pub mod Counts
