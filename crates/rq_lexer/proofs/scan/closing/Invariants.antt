use Rattle.std.proofs.Common.{◌≡◌, ◌+◌, ◌≤◌, length, true, false}
use Rattle.rq_lexer.specs.Lex.{closing}
use Rattle.rq_lexer.proofs.scan.closing.Given as goal

abbrev pub invariant-loop-rest : goal.invariant-loop-rest
invariant-loop-rest l = (closing l.quote l.n l.is_open l.rest ≡ closing l.quote 0 false l.initial.rest) × (l.n + length l.rest ≡ length l.initial.rest) × (l.is_open ≡ true → 1 ≤ l.n)

abbrev pub decreases-loop-rest : goal.decreases-loop-rest
decreases-loop-rest l = length l.rest
