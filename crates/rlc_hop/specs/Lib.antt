pub mod Air
pub mod Side
