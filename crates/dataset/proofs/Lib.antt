pub mod Walks
pub mod Steps
pub mod Descriptions
pub mod Turns
pub mod Loops
pub mod Falls
pub mod Conversions
pub mod RoundTrip
