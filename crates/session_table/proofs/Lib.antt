pub mod Searches
pub mod Rules
pub mod Judged
pub mod Refused
