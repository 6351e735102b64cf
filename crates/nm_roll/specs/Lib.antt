pub mod Records
pub mod Clients
pub mod Leases
pub mod Moves
pub mod Steps
