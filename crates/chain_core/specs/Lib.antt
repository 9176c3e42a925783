pub mod Told
pub mod Nodes
pub mod Opening
pub mod Confirming
pub mod Chain
