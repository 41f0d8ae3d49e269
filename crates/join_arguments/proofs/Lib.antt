pub mod Printed
pub mod Spelling
pub mod Examples
