mod Examples
pub mod Placing
