pub mod Counts
pub mod Outcome
pub mod OneList
pub mod Holding
pub mod Reported
pub mod OfSubmitted
pub mod SomeList
