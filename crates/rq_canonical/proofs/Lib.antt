mod Again
mod GoodExpr
mod GoodStmt
mod Opened
mod PrintedTexts
mod Texts
