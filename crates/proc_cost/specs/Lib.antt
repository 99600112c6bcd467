pub mod Costs
pub mod CostLaws
