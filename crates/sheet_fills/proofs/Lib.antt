pub mod Laws
pub mod Cases
pub mod Bounds
