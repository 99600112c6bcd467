pub mod Settling
pub mod Answers
pub mod Sets
pub mod Running
pub mod SettlingLaws
pub mod Serial
