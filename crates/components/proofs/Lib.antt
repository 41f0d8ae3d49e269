pub mod Tallies
pub mod Whole
pub mod Marking
pub mod Sheets
