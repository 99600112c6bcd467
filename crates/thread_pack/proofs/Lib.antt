pub mod Examples
pub mod FollowLaws
pub mod PackLaws
pub mod TableLemmas
pub mod BoundLemmas
pub mod GroupLemmas
pub mod TaskLemmas
pub mod WholeLemmas
