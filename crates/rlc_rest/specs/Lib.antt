pub mod Progress
pub mod Rest
pub mod Moves
