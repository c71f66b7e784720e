pub mod Alone
pub mod Beside
pub mod Isolation
