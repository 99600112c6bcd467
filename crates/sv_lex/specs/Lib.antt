pub mod Spelling
pub mod Cut
pub mod Scan
pub mod Lexeme
pub mod Answer
pub mod CutLaws
pub mod Number
