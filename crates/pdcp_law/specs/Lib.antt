pub mod Hearings
pub mod HandUps
pub mod Submitted
