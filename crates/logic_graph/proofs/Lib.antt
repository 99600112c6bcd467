pub mod ApartLemmas
pub mod EdgeLemmas
mod Examples
pub mod NoteLemmas
pub mod WriterLemmas
