pub mod Format
pub mod Says
pub mod Laws
