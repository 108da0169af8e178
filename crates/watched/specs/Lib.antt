pub mod Watched
pub mod Nodes
pub mod Scan
