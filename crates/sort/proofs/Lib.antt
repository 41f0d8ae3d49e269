pub mod Packed
pub mod Numbers
pub mod Sorted
pub mod Listed
pub mod Rearranged
pub mod Entries
