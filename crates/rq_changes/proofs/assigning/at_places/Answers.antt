use Rattle.std.proofs.Common.{ap, ◌∙◌, List, length, replicate}
use Rattle.rq_values.specs.declared.value.Value.TheVariants.{Null}
use Rattle.rq_grammar.specs.declared.stmt.ColumnDef.{ColumnDef}
use Rattle.rq_meaning.specs.Changes.{all_set}
use Rattle.rq_changes.proofs.Judged.{null_row}
use Rattle.rq_changes.proofs.assigning.at_places.Goals as goal

pub returns-in-Ok : goal.returns-in-Ok
returns-in-Ok c =
    c.from_vec.ensures ∙ c.set_all.ensures
    ∙ ap (all_set c.args.places.now c.args.values) (c.in-Ok.ensures ∙ ap (λ (cs : List ColumnDef). replicate (length cs) Null) c.all_columns.ensures ∙ null_row _)
