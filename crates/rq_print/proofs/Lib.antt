mod Appending
pub mod ReadExpr
pub mod ReadStmt
