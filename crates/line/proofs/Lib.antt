mod Lines
mod Ends
pub mod Fields
pub mod Counted
pub mod Reading
