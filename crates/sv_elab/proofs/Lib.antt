pub mod Rooteds
pub mod Tops
