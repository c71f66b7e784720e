pub mod Wire
pub mod Subscriptions
pub mod Sessions
