pub mod Continuations
pub mod Figures
