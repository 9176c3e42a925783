pub mod Telling
pub mod Laws
pub mod Tickets
pub mod Delivering
pub mod Receiving
pub mod Foundations
pub mod HandingUp
pub mod Reporting
