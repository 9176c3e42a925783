pub mod Pairs
pub mod AtPlace
mod Opened
pub mod Heard
pub mod Moving
mod Walk
mod Giving
mod Entered
mod Purged
mod PurgedTwice
mod Placed
