pub mod Cases
pub mod Bounds
