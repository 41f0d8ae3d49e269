pub mod Blamed
pub mod InOrder
