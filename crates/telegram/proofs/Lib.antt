pub mod Families
pub mod Finished
pub mod Reading
pub mod Writing
pub mod RoundTrip
pub mod Passing
