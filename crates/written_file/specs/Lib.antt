pub mod File
pub mod Spelled
pub mod Remade
