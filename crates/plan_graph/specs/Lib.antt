pub mod Graphs
pub mod GraphLaws
pub mod Groupings
pub mod ListLaws
pub mod PathLaws
