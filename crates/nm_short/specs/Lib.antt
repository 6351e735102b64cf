pub mod Files
pub mod Known
pub mod Requests
pub mod RunFacts
pub mod Runs
pub mod ShortRun
pub mod Slots
pub mod Tables
