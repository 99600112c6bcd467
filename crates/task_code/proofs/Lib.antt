pub mod Tailing
pub mod Copying
pub mod Bodies
mod Examples
