pub mod Added
pub mod Changed
pub mod Codes
pub mod Declared
pub mod Digits
mod Examples
pub mod Keys
pub mod Places
pub mod Segments
pub mod Tails
pub mod Walks
