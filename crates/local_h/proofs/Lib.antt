pub mod Ordered
pub mod Steps
pub mod Bases
pub mod Fewer
pub mod NoFit
pub mod Worked
pub mod Finding
