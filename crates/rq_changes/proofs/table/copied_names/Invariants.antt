use Rattle.std.proofs.Common.{◌≡◌, ◌++◌, map, drop}
use Rattle.rq_grammar.specs.declared.stmt.ColumnDef.{ColumnDef}
use Rattle.rq_changes.proofs.table.copied_names.Given as goal

abbrev pub invariant-loop-column : goal.invariant-loop-column
invariant-loop-column l = l.names ++ map (λ (c : ColumnDef). c.name) (drop l.column-index l.columns) ≡ map (λ (c : ColumnDef). c.name) l.columns
