pub mod Walking
pub mod Firsts
mod Examples
