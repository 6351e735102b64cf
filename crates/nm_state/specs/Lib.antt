pub mod Asked
pub mod Listing
pub mod Locking
pub mod Opening
pub mod Pages
pub mod State
pub mod Taken
pub mod Turns
