pub mod Listener
pub mod Session
