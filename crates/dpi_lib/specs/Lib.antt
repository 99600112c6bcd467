pub mod Library
pub mod LibraryLaws
