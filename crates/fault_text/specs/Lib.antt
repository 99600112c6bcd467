pub mod FaultText
pub mod Endings
