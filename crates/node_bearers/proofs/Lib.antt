pub mod Confirming
pub mod Found
pub mod Heard
pub mod Opening
pub mod Searches
pub mod Switched
pub mod Table
