pub mod NoFit
pub mod Worked
