pub mod Slot
pub mod Table
pub mod Alone
pub mod Watched
pub mod Demand3
