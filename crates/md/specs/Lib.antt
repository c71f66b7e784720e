pub mod Uri
pub mod Md
