use Rattle.std.proofs.Common.{◌≡◌, length, take, drop}
use Rattle.rq_eval.specs.Outcome.{all_behind, all_of}
use Rattle.rq_meaning.specs.Rows.{all_stored}
use Rattle.rq_changes.proofs.storing.store_all.Given as goal

abbrev pub invariant-loop-i : goal.invariant-loop-i
invariant-loop-i l = record {
  count : length l.row.items ≡ length l.columns;
  so_far : all_behind (take l.i l.row.items) (all_stored l.table (drop l.i l.columns) (drop l.i l.row.items)) ≡ all_of (all_stored l.table l.columns l.initial.row.items);
}
