pub mod Counting
pub mod History
