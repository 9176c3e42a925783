pub mod Pieces
pub mod Order
pub mod Carrying
pub mod Foundations
