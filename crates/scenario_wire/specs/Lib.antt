pub mod Wire
pub mod Publications
