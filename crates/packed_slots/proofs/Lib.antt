pub mod Places
pub mod Fields
pub mod Left
pub mod Found
