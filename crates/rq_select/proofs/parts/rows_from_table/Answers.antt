use Rattle.std.proofs.Common.{ap, subst, ◌∙◌, map, List, length}
use Rattle.rq_eval.specs.Outcome.{Answers}
use Rattle.rq_results.specs.Results.{Shown, spread}
use Rattle.rq_results.specs.Table.{scope_of, rows_of}
use Rattle.rq_results.specs.Viewed.{shown}
use Rattle.rq_select.specs.Select as spec
use Rattle.rq_select.proofs.parts.rows_from_table.Goals as goal

pub returns-in-Ok : goal.returns-in-Ok
returns-in-Ok g c =
    let t = g.T.TableView.means c.args.table.now in
    subst (λ (ws : List Shown). Answers (spec.rows_selected c.args.stmt.now (scope_of t) (rows_of t) ws) c.rows_of_table.result)
    (ap (map shown) c.as_slice-in-Ok.ensures.value ∙ rw c.columns.ensures at c.in-Ok.ensures ∙ ap (spread (length t.columns)) c.as_slice.ensures)
    c.rows_of_table.ensures
