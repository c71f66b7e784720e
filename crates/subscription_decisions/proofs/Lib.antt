pub mod Judging
pub mod Parts
pub mod Showing
pub mod Delivering
