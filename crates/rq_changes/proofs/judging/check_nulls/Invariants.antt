use Rattle.std.proofs.Common.{◌≡◌, drop}
use Rattle.rq_results.specs.Checks.{first}
use Rattle.rq_meaning.specs.Rows.{nulls}
use Rattle.rq_changes.proofs.judging.check_nulls.Given as goal

abbrev pub invariant-loop-i : goal.invariant-loop-i
invariant-loop-i l = first (nulls l.table l.had (drop l.i l.columns) (drop l.i l.row)) ≡ first (nulls l.table l.had l.columns l.row)
