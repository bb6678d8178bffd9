use Rattle.std.proofs.Common.{◌≡◌, ◌++◌, length, false}
use Rattle.rq_lexer.specs.Lex.{undoubled}
use Rattle.rq_lexer.proofs.prefix.undoubled.Given as goal

abbrev pub invariant-loop-rest : goal.invariant-loop-rest
invariant-loop-rest l = l.bytes.items ++ undoubled l.quote l.is_second l.rest ≡ undoubled l.quote false l.inside

abbrev pub decreases-loop-rest : goal.decreases-loop-rest
decreases-loop-rest l = length l.rest
