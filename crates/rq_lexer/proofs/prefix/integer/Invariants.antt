use Rattle.std.proofs.Common.{◌≡◌, ◌+◌, ◌*◌, ◌-◌, length}
use Rattle.std.specs.Char.{is_ascii_digit}
use Rattle.std.specs.List.{list_all, fold}
use Rattle.rq_lexer.specs.Lex.{number_of}
use Rattle.rq_lexer.proofs.prefix.integer.Given as goal

abbrev pub invariant-loop-rest : goal.invariant-loop-rest
invariant-loop-rest l = (list_all is_ascii_digit l.rest ≡ list_all is_ascii_digit l.run) × (fold (λ n b. 10 * n + (b - 48)) l.number l.rest ≡ number_of l.run)

abbrev pub decreases-loop-rest : goal.decreases-loop-rest
decreases-loop-rest l = length l.rest
