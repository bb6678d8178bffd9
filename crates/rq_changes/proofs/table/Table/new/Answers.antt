use Rattle.std.proofs.Common.{◌≡◌, ap, sym, ◌∙◌, map, List}
use Rattle.rq_grammar.specs.declared.stmt.ColumnDef.{ColumnDef}
use Rattle.rq_eval.specs.declared.row.Scope.TheVariants as seen
use Rattle.rq_rows.specs.Staged.{Staged}
use Rattle.rq_meaning.specs.Database.{table_size}
use Rattle.rq_meaning.specs.Rows.{all_columns}
use Rattle.rq_changes.specs.Staged.{start_of, before_of, now_of}
use Rattle.rq_changes.proofs.Sums.{size_empty}
use Rattle.rq_changes.proofs.table.Table.new.Goals as goal

pub invariant_of-result : goal.invariant_of-result
invariant_of-result c =
    let name = c.args.name in
    let size = size_empty name c.args.columns c.args.size c.requires.size in
    let rows = sym c.in-Ok-new.ensures in
    let columns : c.args.columns ≡ c.in-Ok-new.rows.columns = ap (λ (s : Staged). s.columns) rows in
    record {
      scope = c.in-Ok.ensures ∙ ap (λ (cs : List ColumnDef). seen.Table name (map (λ (d : ColumnDef). d.name) cs)) (c.as_slice.ensures ∙ columns);
      all = c.in-Ok-all_columns.ensures ∙ ap all_columns (c.as_slice-2.ensures ∙ columns);
      start = (size ∙ ap (λ (s : Staged). table_size (start_of (record { name = name; rows = s }))) rows, c.requires.limit);
      before = (size ∙ ap (λ (s : Staged). table_size (before_of (record { name = name; rows = s }))) rows, c.requires.limit);
      now = (size ∙ ap (λ (s : Staged). table_size (now_of (record { name = name; rows = s }))) rows, c.requires.limit);
    }
