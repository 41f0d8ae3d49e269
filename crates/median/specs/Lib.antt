pub mod Median
pub mod Packed
pub mod Keys
