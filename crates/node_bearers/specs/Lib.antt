pub mod Bearer
pub mod Hearing
pub mod Order
pub mod Table
pub mod Calls
pub mod Switching
