pub mod Text
pub mod Table
