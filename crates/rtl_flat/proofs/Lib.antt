pub mod Facts
pub mod Laying
pub mod Outcomes
pub mod Tops
