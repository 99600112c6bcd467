pub mod Input
pub mod InputLaws
