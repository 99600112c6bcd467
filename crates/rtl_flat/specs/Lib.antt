pub mod Imports
pub mod ImportsLaws
pub mod Laid
pub mod Ports
pub mod Heads
pub mod PortVars
pub mod Edges
