pub mod Entities
pub mod Sides
pub mod Order
pub mod Table
pub mod Calls
pub mod Switching
