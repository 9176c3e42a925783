pub mod Checks
pub mod Segments
pub mod Asked
pub mod Again
