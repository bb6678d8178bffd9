use Rattle.std.proofs.Common.{◌≡◌, drop}
use Rattle.std.specs.Prelude.{map}
use Rattle.rq_grammar.specs.Proper.{all_of}
use Rattle.rq_print.specs.Written as spec
use Rattle.rq_print.proofs.written.know_rows.Given as goal

-- what is still to be looked at decides
abbrev pub invariant-loop-row : goal.invariant-loop-row
invariant-loop-row l = all_of (map spec.row_written (drop l.row-index l.rows)) ≡ all_of (map spec.row_written l.rows)
