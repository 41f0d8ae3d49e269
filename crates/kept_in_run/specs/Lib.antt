pub mod InRun
pub mod Through
