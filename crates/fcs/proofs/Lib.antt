pub mod Xor
pub mod Linear
pub mod Halves
pub mod Joined
pub mod Turns
