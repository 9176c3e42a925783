pub mod Assembly
pub mod Elements
pub mod Hearing
pub mod Polling
pub mod Reassembly
pub mod Receiver
pub mod StatusMaking
