pub mod Bits
pub mod Reports
pub mod Runs
pub mod Soundness
pub mod Stores
