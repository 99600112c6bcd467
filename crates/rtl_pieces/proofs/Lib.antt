pub mod Noting
pub mod Naming
pub mod Merging
pub mod Taking
pub mod Sweeping
pub mod Owning
pub mod Least
pub mod Tiling
pub mod Listing
pub mod Marking
pub mod Finding
pub mod Covering
pub mod Counting
pub mod Cutting
pub mod Uncut
pub mod Whole
pub mod Driving
mod Examples
