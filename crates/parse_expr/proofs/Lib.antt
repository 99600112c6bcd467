pub mod Closings
pub mod Compared
pub mod Examples
pub mod Lexemes
pub mod Rules
pub mod Spelled
pub mod TargetRules
pub mod TypeRules
