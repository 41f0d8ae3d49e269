pub mod Ends
pub mod Bound
pub mod Row
pub mod Lattices
pub mod Examples
