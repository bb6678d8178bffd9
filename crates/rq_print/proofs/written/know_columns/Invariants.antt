use Rattle.std.proofs.Common.{◌≡◌, drop}
use Rattle.std.specs.Prelude.{map}
use Rattle.rq_grammar.specs.Proper.{all_of}
use Rattle.rq_print.specs.Written as spec
use Rattle.rq_print.proofs.written.know_columns.Given as goal

-- what is still to be looked at decides
abbrev pub invariant-loop-column : goal.invariant-loop-column
invariant-loop-column l = all_of (map spec.column_written (drop l.column-index l.columns)) ≡ all_of (map spec.column_written l.columns)
