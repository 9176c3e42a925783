pub mod base
pub mod kept
pub mod moving
pub mod giving
pub mod switching
pub mod Inductive
pub mod laws
