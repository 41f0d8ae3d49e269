pub mod First
pub mod Number
