mod Counted
mod Kept
mod Calls
