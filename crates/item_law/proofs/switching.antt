pub mod Plans
pub mod Opening
pub mod Applying
pub mod Closing
