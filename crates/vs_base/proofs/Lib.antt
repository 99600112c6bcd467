mod NumberExamples
mod OperatorExamples
mod TypeExamples
pub mod NumberLemmas
pub mod OperatorLemmas
