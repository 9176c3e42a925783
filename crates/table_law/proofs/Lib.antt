pub mod Rows
pub mod Stages
pub mod Lines
pub mod Declared
pub mod Mapped
pub mod Relayed
pub mod TheLaws
