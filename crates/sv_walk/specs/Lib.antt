pub mod Events
pub mod EventLaws
pub mod Tells
pub mod Targets
pub mod TargetLaws
pub mod First
