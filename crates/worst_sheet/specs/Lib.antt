pub mod Worst
pub mod Value
