pub mod Fit
pub mod Flags
pub mod Lines
