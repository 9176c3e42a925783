pub mod Pushed
pub mod Boxes
pub mod Moving
pub mod Entering
pub mod Leaving
pub mod Emptying
pub mod Completing
