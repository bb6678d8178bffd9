use Rattle.std.proofs.Common.{◌≡◌, drop}
use Rattle.std.specs.Option.{option_copied}
use Rattle.rq_meaning.specs.Changes.{in_turn, none_inserted}
use Rattle.rq_changes.specs.Making.{IsWithin}
use Rattle.rq_changes.specs.Staged.{now_of}
use Rattle.rq_changes.specs.Stepping.{expressions_by}
use Rattle.rq_changes.proofs.inserting.insert_rows.Given as goal

abbrev pub invariant-loop-i : goal.invariant-loop-i
invariant-loop-i l = record {
  rest : l.table ≡ record l.initial.table { rows = record l.initial.table.rows { now = l.table.rows.now } };
  within : IsWithin l.others (now_of l.table);
  so_far : in_turn (expressions_by l.others (option_copied l.places)) (drop l.i l.rows) (record { table = now_of l.table; count = l.i; last = l.last }) ≡ in_turn (expressions_by l.others (option_copied l.places)) l.rows (none_inserted (now_of l.initial.table));
}
