use Rattle.std.proofs.Common.{◌≡◌, ℕ, ◌+◌, ◌-◌, ◌≤◌, length, drop}
use Rattle.rq_lexer.specs.Lex.{lex_from}
use Rattle.rq_lexer.proofs.lexer.blanks_len.Given as goal

abbrev pub invariant-loop-passed : goal.invariant-loop-passed
invariant-loop-passed l = ((at : ℕ) → lex_from at 0 l.text ≡ lex_from (at + l.passed) 0 (drop l.passed l.text)) × (l.passed ≤ length l.text)

abbrev pub decreases-loop-passed : goal.decreases-loop-passed
decreases-loop-passed l = length l.text - l.passed
