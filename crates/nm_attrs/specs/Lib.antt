pub mod Attributes
pub mod Bitmaps
pub mod Takes
