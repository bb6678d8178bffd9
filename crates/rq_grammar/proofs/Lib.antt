pub mod PrintExpr
pub mod PrintStmt
