pub mod Longest
pub mod Worst
