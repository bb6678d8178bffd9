use Rattle.std.proofs.Common.{length}
use Rattle.rq_reader_tests.proofs.tokens.a_long_text.Given as goal

abbrev pub decreases-loop-text : goal.decreases-loop-text
decreases-loop-text g l = length l.lexer
