pub mod First
pub mod Input
pub mod Lexemes
pub mod Made
pub mod Outside
pub mod Parsed
pub mod ParsedLaws
