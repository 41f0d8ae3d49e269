pub mod Computed
pub mod Fills
pub mod Moved
