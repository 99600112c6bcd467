pub mod MeaningLaws
pub mod ScopeLaws
pub mod Scopes
pub mod Slots
