use Rattle.std.proofs.Common.{◌≡◌, ◌++◌, drop}
use Rattle.rq_meaning.specs.Rows.{all_values}
use Rattle.rq_changes.proofs.assigning.copied_row.Given as goal

abbrev pub invariant-loop-value : goal.invariant-loop-value
invariant-loop-value l = l.row.items ++ drop l.value-index l.values ≡ all_values l.table.rows.columns l.key l.values
