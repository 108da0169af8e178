pub mod Entry
pub mod Ring
pub mod Queue
pub mod History
pub mod Desk
pub mod Sizes
