-- One reading.
use Rattle.std.proofs.Common.{◌≡◌}
use Rattle.rq_grammar.specs.declared.stmt.Stmt.{Stmt}
use Rattle.rq_grammar.specs.Words.{Tokens}
use Rattle.rq_grammar.specs.Statements.{Spells}
use Rattle.rq_automaton.proofs.CompleteStatements.{complete_stmt}

pub one : (x : Tokens) (r r' : Stmt) → Spells x r → Spells x r' → r ≡ r'
one x r r' p q = let a = complete_stmt p in let b = complete_stmt q in cc
