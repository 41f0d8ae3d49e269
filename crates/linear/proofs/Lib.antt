pub mod Pivot
pub mod Worked
pub mod Turns
