pub mod Found
pub mod Spread
