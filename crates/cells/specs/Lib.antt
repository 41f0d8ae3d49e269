pub mod Points
pub mod Cell
