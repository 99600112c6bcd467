pub mod Hazards
pub mod Spans
