pub mod ByValue
pub mod Steps
