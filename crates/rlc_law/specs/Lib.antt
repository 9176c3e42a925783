pub mod Hop
pub mod Laws
pub mod Receiver
pub mod Ports
pub mod Sides
pub mod PortLaws
pub mod OneOutcome
pub mod Transmitter
