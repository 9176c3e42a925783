pub mod Octets
pub mod SequenceNumbers
