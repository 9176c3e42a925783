pub mod Senders
pub mod Added
pub mod Gives
pub mod Injected
