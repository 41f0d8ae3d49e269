pub mod Predict
pub mod Fills
pub mod Sums
pub mod Places
pub mod Theorems
pub mod Steps
