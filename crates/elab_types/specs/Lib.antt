pub mod Word
pub mod Packed
pub mod Memory
pub mod Port
pub mod Value
pub mod Parameter
pub mod Turns
pub mod Branch
