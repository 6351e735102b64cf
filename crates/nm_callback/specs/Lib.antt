pub mod Callbacks
