pub mod Walking
pub mod Marking
pub mod Sums
