pub mod Close
pub mod Ranks
pub mod Sweep
pub mod Hits
