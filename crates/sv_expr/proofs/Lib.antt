mod MeaningExamples
pub mod Texts
pub mod Digits
pub mod Walks
pub mod Ranges
pub mod Nearest
pub mod Prefixes
pub mod Exprs
pub mod Targets
