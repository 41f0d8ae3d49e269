pub mod Filtered
pub mod Merged
pub mod Elements
pub mod Walk
pub mod Merging
pub mod Numbers
pub mod Examples
