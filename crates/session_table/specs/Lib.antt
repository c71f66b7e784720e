pub mod Table
pub mod Sought
pub mod Calls
