pub mod Packing
pub mod Tables
