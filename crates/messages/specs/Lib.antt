pub mod Arriving
pub mod History
