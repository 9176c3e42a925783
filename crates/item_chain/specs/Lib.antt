pub mod View
pub mod Stands
pub mod Foundations
pub mod Laws
pub mod Runs
pub mod Fed
