pub mod Taken
pub mod RoundTrip
