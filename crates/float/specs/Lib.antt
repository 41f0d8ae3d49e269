pub mod Constants
pub mod Root
pub mod Scalar
pub mod Remainder
pub mod Found
pub mod Theorems
pub mod Words
