pub mod Laws
pub mod Cases
pub mod Whole
pub mod Texts
