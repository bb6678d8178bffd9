use Rattle.std.proofs.Common.{◌≡◌, ◌≤◌, ℕ, ◌++◌, map, length, Some}
use Rattle.rq_eval.specs.Names.{row_of}
use Rattle.rq_results.specs.Table.{as_row, rows_of}
use Rattle.rq_rows.specs.Slots.{shown}
use Rattle.rq_changes.specs.Staged.{now_of}
use Rattle.rq_changes.proofs.table.TableTableView.rows.Given as goal

abbrev pub invariant-loop-key : goal.invariant-loop-key
invariant-loop-key l = record {
  so_far : map row_of l.all.items ++ map as_row (shown l.key-iterator) ≡ rows_of (now_of l.self);
  within : (n : ℕ) → l.most ≡ Some n → length l.all.items ≤ n;
}
