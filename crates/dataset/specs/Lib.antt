pub mod Descriptions
pub mod Walk
pub mod Steps
