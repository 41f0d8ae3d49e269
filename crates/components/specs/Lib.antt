pub mod Components
pub mod WholePatches
