mod Identities
pub mod Before
pub mod Places
pub mod Steps
mod Ordered
pub mod Opened
mod Applied
mod Bearing
