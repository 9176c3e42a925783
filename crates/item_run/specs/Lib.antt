pub mod Replies
pub mod Discards
pub mod OneCopy
pub mod Identities
pub mod Windows
pub mod Foundations
pub mod Laws
