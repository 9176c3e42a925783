pub mod Past
pub mod Hearings
pub mod Confirmations
pub mod Kept
pub mod Honest
pub mod Laws
