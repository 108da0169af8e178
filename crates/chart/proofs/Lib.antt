pub mod SameFlag
pub mod Steps
