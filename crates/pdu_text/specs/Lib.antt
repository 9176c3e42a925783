pub mod Forms
pub mod Texts
pub mod Explains
pub mod Laws
