pub mod Full
pub mod Adding
pub mod Theorems
pub mod Examples
