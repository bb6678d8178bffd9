use Rattle.std.proofs.Common.{◌≡◌, ◌++◌, length, true}
use Rattle.std.specs.Char.{is_ascii_hexdigit}
use Rattle.std.specs.List.{list_all}
use Rattle.rq_lexer.specs.Lex.{bytes_of_hex}
use Rattle.rq_lexer.proofs.prefix.bytes_of_hex.Given as goal

abbrev pub invariant-loop-rest : goal.invariant-loop-rest
invariant-loop-rest l = (l.bytes.items ++ bytes_of_hex l.rest ≡ bytes_of_hex l.digits) × (list_all is_ascii_hexdigit l.rest ≡ true)

abbrev pub decreases-loop-rest : goal.decreases-loop-rest
decreases-loop-rest l = length l.rest
