pub mod Directive
pub mod Reading
pub mod Active
pub mod Answer
pub mod Table
pub mod Shown
pub mod NamedLaws
pub mod Plain
