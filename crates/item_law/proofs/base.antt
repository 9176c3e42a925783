pub mod Puts
pub mod Apart
pub mod Nodes
