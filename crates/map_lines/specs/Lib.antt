pub mod Map
pub mod Page
