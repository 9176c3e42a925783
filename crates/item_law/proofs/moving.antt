pub mod Moves
pub mod AtRelay
pub mod AtEnd
pub mod Arrives
