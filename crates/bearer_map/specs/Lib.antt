pub mod Settings
pub mod Order
pub mod Contents
pub mod Lines
pub mod Ids
pub mod Routes
pub mod Laws
