pub mod Srap
pub mod Laws
