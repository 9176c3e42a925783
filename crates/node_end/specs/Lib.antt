pub mod Node
pub mod Opening
pub mod Ports
pub mod Routing
pub mod Hearing
pub mod Feeding
pub mod Fed
pub mod End
