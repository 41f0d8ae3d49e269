-- What the loops of the crate keep, and what the table of ranks says of cells.
pub mod Splicing
pub mod Standing
pub mod Passing
pub mod Swept
pub mod Firsts
pub mod Indices
pub mod Filled
pub mod Views
pub mod Mirror
pub mod InOrder
pub mod Joined
pub mod Alike
pub mod Moved
