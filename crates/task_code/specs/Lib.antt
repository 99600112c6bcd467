pub mod Tails
pub mod Soles
pub mod Reads
pub mod Compiled
