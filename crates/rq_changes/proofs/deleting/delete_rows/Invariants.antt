use Rattle.std.proofs.Common.{◌≡◌, ◌≤◌, drop}
use Rattle.rq_meaning.specs.Database.{table_size}
use Rattle.rq_meaning.specs.Changes.{without_rows}
use Rattle.rq_changes.specs.Staged.{now_of}
use Rattle.rq_changes.proofs.deleting.delete_rows.Given as goal

abbrev pub invariant-loop-key : goal.invariant-loop-key
invariant-loop-key l = record {
  rest : l.table ≡ record l.initial.table { rows = record l.initial.table.rows { now = l.table.rows.now } };
  so_far : without_rows (drop l.key-index l.keys) (now_of l.table) ≡ without_rows l.keys (now_of l.initial.table);
  smaller : table_size (now_of l.table) ≤ table_size (now_of l.initial.table);
}
