pub mod Candidates
pub mod Cause
pub mod DefaultLaws
pub mod Defaults
pub mod Noted
pub mod NotedLaws
pub mod Tops
