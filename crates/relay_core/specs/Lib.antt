pub mod Queue
pub mod Ports
pub mod Opening
pub mod Calls
pub mod Routing
pub mod Relay
pub mod Switching
pub mod Standing
