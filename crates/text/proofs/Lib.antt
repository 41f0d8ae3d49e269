pub mod Numbers
pub mod Stores
pub mod Examples
