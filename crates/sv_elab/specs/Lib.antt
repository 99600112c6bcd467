pub mod Rooted
pub mod Faults
pub mod Top
