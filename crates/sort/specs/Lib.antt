pub mod Sorted
pub mod Numbers
pub mod Packed
