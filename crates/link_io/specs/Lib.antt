pub mod Bytes
pub mod Calls
pub mod Causes
pub mod MemSink
pub mod MemSource
pub mod Standard
