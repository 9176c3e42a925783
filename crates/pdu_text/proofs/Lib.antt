pub mod PdcpFacts
pub mod SrapFacts
pub mod Explained
