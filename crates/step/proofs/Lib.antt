pub mod Deviating
pub mod Finite
