mod Inserted
pub mod Members
pub mod Walk
mod Ascending
mod Ordered
mod Kept
pub mod Detached
