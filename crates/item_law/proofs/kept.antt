pub mod Invariant
pub mod Changes
