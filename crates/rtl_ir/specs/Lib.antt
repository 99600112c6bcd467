pub mod Types
pub mod Within
pub mod WithinLaws
pub mod WithinStmt
pub mod WithinStmtLaws
pub mod WithinDesign
