pub mod Marks
pub mod Filters
pub mod Byte
pub mod Tally
pub mod Places
