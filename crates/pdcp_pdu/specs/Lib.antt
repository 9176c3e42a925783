pub mod Pdcp
pub mod Laws
pub mod Reports
