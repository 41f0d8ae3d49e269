pub mod Row
pub mod Apart
pub mod Even
pub mod Level
pub mod NoFit
pub mod Unmarked
