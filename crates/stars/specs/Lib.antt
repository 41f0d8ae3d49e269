pub mod Stars
pub mod WeakEnds
pub mod Listed
pub mod Roots
