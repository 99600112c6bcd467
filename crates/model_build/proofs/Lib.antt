pub mod Stages
pub mod Covering
pub mod Feeding
pub mod Coding
pub mod Uses
pub mod Touch
pub mod Planned
pub mod Reaching
pub mod Spanning
pub mod Keeping
mod Examples
