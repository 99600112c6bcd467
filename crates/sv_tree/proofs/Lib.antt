pub mod Keys
pub mod Examples
pub mod Printed
pub mod TreeExamples
