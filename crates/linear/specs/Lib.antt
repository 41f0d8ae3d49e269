pub mod Rows
pub mod Linear
