pub mod Examples
pub mod Size
