pub mod Order
pub mod Flags
pub mod Counting
pub mod Joining
pub mod Cutting
pub mod Replacing
pub mod Sets
