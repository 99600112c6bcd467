pub mod HazardLaws
pub mod HazardLemmas
pub mod SpanLemmas
