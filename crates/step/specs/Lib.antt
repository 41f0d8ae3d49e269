pub mod Step
pub mod Deviation
