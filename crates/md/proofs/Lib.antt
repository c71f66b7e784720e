pub mod Texts
pub mod Taken
pub mod Fronts
pub mod RoundTrip
