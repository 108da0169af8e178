pub mod Bits
pub mod Bitmaps
pub mod Told
