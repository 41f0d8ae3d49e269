-- What keys say of cells, and cells of each other.
pub mod Coordinates
pub mod Keys
pub mod Edges
