pub mod Filled
pub mod Answers
pub mod Listening
pub mod Checking
