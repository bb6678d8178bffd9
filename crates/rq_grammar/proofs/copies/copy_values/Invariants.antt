use Rattle.std.proofs.Common.{◌≡◌, take}
use Rattle.rq_grammar.proofs.copies.copy_values.Given as goal

abbrev pub invariant-loop-row : goal.invariant-loop-row
invariant-loop-row l = l.copy ≡ take l.row-index l.rows
