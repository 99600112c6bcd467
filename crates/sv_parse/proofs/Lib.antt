pub mod Rules
pub mod Whole
