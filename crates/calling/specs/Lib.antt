pub mod Held
pub mod Values
pub mod Table
pub mod Made
pub mod Declined
pub mod Chain
pub mod Played
