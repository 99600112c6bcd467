pub mod Whole
mod Examples
mod BuiltExamples
