pub mod Axes
pub mod Offsets
pub mod Pair
