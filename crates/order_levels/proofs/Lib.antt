mod Examples
pub mod EdgeLemmas
pub mod FirstLemmas
pub mod LevelLemmas
pub mod PathCostLemmas
pub mod OrderLaws
pub mod Pigeons
pub mod RunLemmas
pub mod SerialLemmas
pub mod SettlingLemmas
pub mod StallLemmas
