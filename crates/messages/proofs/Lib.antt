pub mod Arrived
pub mod History
pub mod Outcome
