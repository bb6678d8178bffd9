use Rattle.std.proofs.Common.{length}
use Rattle.rq_reader_tests.proofs.tokens.tokens.Given as goal

abbrev pub decreases-loop-shown : goal.decreases-loop-shown
decreases-loop-shown l = length l.lexer
