pub mod Foundations
pub mod Entities
pub mod Laws
pub mod Calls
