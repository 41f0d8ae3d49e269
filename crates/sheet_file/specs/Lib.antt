pub mod Bytes
pub mod Limit
pub mod Frame
pub mod Refusals
pub mod Grammar
