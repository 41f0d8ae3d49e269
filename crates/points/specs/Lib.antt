pub mod Records
pub mod Refusals
pub mod Entries
pub mod Table
pub mod Held
