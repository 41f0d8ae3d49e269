pub mod Order
pub mod Base
pub mod Finding
pub mod Residual
pub mod NoFit
