pub mod Text
pub mod Stored
pub mod Answer
