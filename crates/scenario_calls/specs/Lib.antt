pub mod Counters
pub mod Calls
