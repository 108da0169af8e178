pub mod Exact
pub mod Answering
pub mod Writing
pub mod Coming
pub mod Blank
pub mod Holding
pub mod Showing
