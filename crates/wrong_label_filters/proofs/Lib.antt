pub mod FailingEdges
pub mod LineEnds
pub mod Laws
