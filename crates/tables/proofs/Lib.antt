pub mod Trace
pub mod Lists
pub mod Watch
pub mod View
pub mod Arrays
