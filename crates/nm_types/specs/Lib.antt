pub mod Actions
pub mod Calls
pub mod Owners
pub mod Parties
pub mod Statuses
pub mod Wire
