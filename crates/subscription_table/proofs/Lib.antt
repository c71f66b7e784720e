pub mod Stepping
pub mod Fitting
pub mod Lent
pub mod One
pub mod Beside
pub mod Watched
pub mod Flat
pub mod Refused
