use Rattle.std.proofs.Common.{◌≡◌, drop}
use Rattle.rq_meaning.specs.Changes.{in_turn}
use Rattle.rq_changes.specs.Making.{IsWithin}
use Rattle.rq_changes.specs.Staged.{now_of}
use Rattle.rq_changes.specs.Stepping.{updated_by}
use Rattle.rq_changes.proofs.updating.update_rows.Given as goal

abbrev pub invariant-loop-key : goal.invariant-loop-key
invariant-loop-key l = record {
  rest : l.table ≡ record l.initial.table { rows = record l.initial.table.rows { now = l.table.rows.now } };
  within : IsWithin l.others (now_of l.table);
  so_far : in_turn (updated_by l.others l.places l.exprs) (drop l.key-index l.keys) (now_of l.table) ≡ in_turn (updated_by l.others l.places l.exprs) l.keys (now_of l.initial.table);
}
