pub mod Examples
pub mod Laws
pub mod Tables
pub mod Places
pub mod Files
pub mod Every
pub mod Answers
pub mod Plain
