-- What is read of a written sheet file.
pub mod Parts
pub mod Framed
pub mod Heads
pub mod ReadBack
pub mod SpelledOut
pub mod Remade
pub mod Examples
