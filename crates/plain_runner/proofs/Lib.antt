pub mod Codes
pub mod Evals
pub mod Grows
pub mod Rounds
