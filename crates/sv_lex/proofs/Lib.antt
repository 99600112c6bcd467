pub mod Examples
pub mod Tables
pub mod Greatest
pub mod Longest
pub mod Fronts
pub mod Marks
pub mod Whole
pub mod Numbers
