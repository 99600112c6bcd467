mod Examples
pub mod Reversing
pub mod Rotating
pub mod Table
