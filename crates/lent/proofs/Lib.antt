pub mod Walks
pub mod Set
pub mod Moved
pub mod Found
pub mod Ticking
