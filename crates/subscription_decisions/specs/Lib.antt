pub mod Calls
pub mod Read
pub mod Receive
