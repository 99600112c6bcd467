pub mod Written
pub mod WrittenLaws
pub mod Lines
pub mod LineLaws
pub mod Answer
pub mod Stages
pub mod StageLaws
