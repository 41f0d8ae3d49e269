pub mod Filters
pub mod Given
