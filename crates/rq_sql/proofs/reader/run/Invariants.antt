use Rattle.std.proofs.Common.{◌≡◌, ◌≤◌, length}
use Rattle.rq_automaton.specs.Machine.{Start}
use Rattle.rq_lexer.specs.Lex.{lex}
use Rattle.rq_sql.specs.Running.{runs}
use Rattle.rq_sql.proofs.reader.run.Given as goal

abbrev pub invariant-loop-behind : goal.invariant-loop-behind
invariant-loop-behind l = (runs (length l.text) 0 Start (lex l.text) ≡ runs (length l.text) l.opened l.state l.lexer) × (l.opened ≤ 250)

abbrev pub decreases-loop-behind : goal.decreases-loop-behind
decreases-loop-behind l = length l.lexer
