pub mod Direct
pub mod Foundations
pub mod Laws
pub mod Own
