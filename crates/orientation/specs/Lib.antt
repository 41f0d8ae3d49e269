pub mod Orientation
pub mod Voters
