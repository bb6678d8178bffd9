-- Settled statements: what enters the log. docs/SQL.md, "Settled statements".
use Rattle.std.specs.Prelude.{ℕ, ◌≡◌, ◌≤◌, true, length}
use Rattle.rq_grammar.specs.declared.stmt.Stmt.{Stmt}
use Rattle.rq_grammar.specs.Proper.{is_statement}
use Rattle.rq_grammar.specs.Depth.{deepest, the_limits}
use Rattle.rq_print.specs.Text.{text_of}
use Rattle.rq_print.specs.Written.{statement_written}
use Rattle.rq_statement.specs.Fixed.{statement_fixed}

-- how many bytes a canonical text may have, as many as a text that is read
abbrev pub most_bytes : ℕ
most_bytes = 4194304

-- a proper statement in texts and bytes, without parameters, random nodes and time nodes, within the limits of depth and of length
pub record IsSettled (s : Stmt) : Type 0 where
  pub proper : is_statement s ≡ true
  pub written : statement_written s ≡ true
  pub fixed : statement_fixed s ≡ true
  pub shallow : deepest s ≤ the_limits.depth
  pub short : length (text_of s) ≤ most_bytes

-- the same, but for the limit of length
pub record IsFixed (s : Stmt) : Type 0 where
  pub proper : is_statement s ≡ true
  pub written : statement_written s ≡ true
  pub fixed : statement_fixed s ≡ true
  pub shallow : deepest s ≤ the_limits.depth
