pub mod Amd
pub mod Laws
