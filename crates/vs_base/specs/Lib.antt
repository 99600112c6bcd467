pub mod Number
pub mod NumberLaws
pub mod Operators
pub mod OperatorLaws
pub mod Types
pub mod WholeNumber
