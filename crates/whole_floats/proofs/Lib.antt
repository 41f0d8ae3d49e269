pub mod Whole
pub mod Signs
