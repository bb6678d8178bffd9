use Rattle.std.proofs.Common.{◌≡◌, ◌+◌, length, false}
use Rattle.rq_lexer.specs.Lex.{behind_comment}
use Rattle.rq_lexer.proofs.scan.comment_len.Given as goal

abbrev pub invariant-loop-rest : goal.invariant-loop-rest
invariant-loop-rest l = (behind_comment l.at l.star l.rest ≡ behind_comment 2 false l.initial.rest) × (l.at + length l.rest ≡ length l.initial.rest + 2)

abbrev pub decreases-loop-rest : goal.decreases-loop-rest
decreases-loop-rest l = length l.rest
