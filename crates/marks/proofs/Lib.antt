pub mod Guards
pub mod Byte
pub mod Counts
pub mod Places
