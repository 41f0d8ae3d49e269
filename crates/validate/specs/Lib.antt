pub mod Validate
pub mod Parts
