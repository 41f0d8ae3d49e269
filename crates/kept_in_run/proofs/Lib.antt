pub mod Laws
pub mod Cases
