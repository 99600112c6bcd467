pub mod Places
pub mod Layout
pub mod Code
pub mod Values
pub mod Header
pub mod Changes
pub mod Buffer
