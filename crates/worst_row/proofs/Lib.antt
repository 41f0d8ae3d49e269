-- The sheet that takes longest: it is accepted as it stands, and is a row of weak points but for the last.
pub mod Patterns
pub mod Accepted
pub mod Row
pub mod Weak
pub mod InRow
