pub mod Judged
pub mod Windows
pub mod Frontier
pub mod Lasts
pub mod WrongLabel
