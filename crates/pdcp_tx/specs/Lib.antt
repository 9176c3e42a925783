pub mod Reported
pub mod Kept
pub mod Sound
pub mod Inside
pub mod Calls
