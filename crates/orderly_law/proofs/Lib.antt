pub mod Found
pub mod Identities
pub mod Ordered
pub mod Outcomes
