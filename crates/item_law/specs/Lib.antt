pub mod State
pub mod Steps
pub mod World
pub mod Live
pub mod OneCopy
pub mod Switches
pub mod HandUps
pub mod Recovery
