pub mod Sizes
pub mod Slots
pub mod Follow
pub mod Slot
pub mod Granting
pub mod Viewing
pub mod History
