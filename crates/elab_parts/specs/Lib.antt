pub mod Actuals
pub mod Counting
pub mod Paths
pub mod Stops
