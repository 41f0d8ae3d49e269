pub mod Located
pub mod Ordering
pub mod Neighbours
pub mod Clashes
pub mod Columns
