pub mod Foundations
pub mod Laws
pub mod Lines
