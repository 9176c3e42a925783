pub mod Receiver
pub mod Store
pub mod Reporting
