pub mod Run
pub mod Promises
