pub mod Feeding
pub mod Kept
pub mod Messages
pub mod Replies
pub mod Stream
