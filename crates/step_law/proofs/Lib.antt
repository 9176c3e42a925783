pub mod Chains
pub mod Refused
pub mod Tells
pub mod Lines
pub mod Steps
pub mod Opening
