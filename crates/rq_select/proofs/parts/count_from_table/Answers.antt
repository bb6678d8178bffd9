use Rattle.std.proofs.Common.{ap, subst, ◌∙◌, map, List, length, Ok}
use Rattle.rq_eval.specs.Outcome.{Answers}
use Rattle.rq_eval.specs.declared.row.Scope.{Scope}
use Rattle.rq_results.specs.Results.{Shown, table_source, spread}
use Rattle.rq_results.specs.Checks.{names_check}
use Rattle.rq_results.specs.Viewed.{shown}
use Rattle.rq_select.specs.Parts.{count_in}
use Rattle.rq_select.specs.Select.{unless}
use Rattle.rq_select.proofs.parts.count_from_table.Goals as goal

pub returns-in-Ok : goal.returns-in-Ok
returns-in-Ok g c =
    let t = g.T.TableView.means c.args.table.now in
    subst (λ (ws : List Shown). Answers (count_in c.args.stmt.now (table_source t) ws) c.count_in.result)
    (ap (map shown) c.as_slice-in-Ok.ensures.value ∙ rw c.columns.ensures at c.in-Ok.ensures ∙ ap (spread (length t.columns)) c.as_slice.ensures)
    (subst (λ (s : Scope). Answers (unless (names_check s (map shown c.as_slice-in-Ok.result.now) c.args.stmt.now) (Ok (length (map shown c.as_slice-in-Ok.result.now)))) c.count_in.result) c.scope.ensures c.count_in.ensures)
