pub mod LiveItems
pub mod OneCopy
pub mod Identities
pub mod Handed
pub mod Recovered
