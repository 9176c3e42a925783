pub mod Places
pub mod HopFits
pub mod Laws
