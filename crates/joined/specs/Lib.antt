pub mod Joined
pub mod Halved
pub mod Numbered
