pub mod Tables
pub mod Sweep
pub mod Views
pub mod InOrder
pub mod Moved
