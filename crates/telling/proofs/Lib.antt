pub mod Ascii
pub mod EntriesShown
pub mod Filled
