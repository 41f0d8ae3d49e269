pub mod Patches
pub mod Reach
pub mod Search
pub mod Boxes
pub mod Extents
pub mod Steps
