pub mod Identifiers
pub mod Kept
pub mod Watched
pub mod Beside
pub mod Isolation
