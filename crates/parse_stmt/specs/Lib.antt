pub mod Body
pub mod BodyLaws
pub mod Heads
