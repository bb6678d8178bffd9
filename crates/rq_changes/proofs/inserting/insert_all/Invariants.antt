use Rattle.std.proofs.Common.{◌≡◌}
use Rattle.std.specs.Option.{option_copied}
use Rattle.rq_changes.specs.Making.{IsWithin, AllFit}
use Rattle.rq_changes.specs.Staged.{now_of}
use Rattle.rq_changes.proofs.Inserted.{Left}
use Rattle.rq_changes.proofs.inserting.insert_all.Given as goal

abbrev pub invariant-loop-row : goal.invariant-loop-row
invariant-loop-row l = record {
  rest : l.table ≡ record l.initial.table { rows = record l.initial.table.rows { now = l.table.rows.now } };
  within : IsWithin l.others (now_of l.table);
  fits : AllFit l.initial.table.rows.columns (option_copied l.places) l.row-iterator.rest.items;
  so_far : Left l.others (option_copied l.places) l.fn.rows (now_of l.initial.table) l.count l.row-iterator.rest.items (now_of l.table) l.last;
}
