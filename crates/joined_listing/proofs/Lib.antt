pub mod Cases
pub mod Whole
