pub mod Alike
pub mod OneOutcome
