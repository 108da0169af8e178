pub mod Parts
pub mod PartWords
pub mod PartsIn
