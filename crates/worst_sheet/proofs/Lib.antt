pub mod Asked
pub mod Pieces
pub mod Size
pub mod Examples
