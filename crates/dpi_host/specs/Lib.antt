pub mod Calls
pub mod HostMachine
pub mod Modes
