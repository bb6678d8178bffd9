use Rattle.std.proofs.Common.{[], map, ap, sym, subst, ◌∙◌, Ok}
use Rattle.rq_eval.specs.Names.{Row}
use Rattle.rq_eval.specs.Outcome.{Answers, then_with}
use Rattle.rq_results.specs.Table.{rows_of}
use Rattle.rq_select.specs.Select.{Test, meets, filtered}
use Rattle.rq_select.specs.Planned.{passes}
use Rattle.rq_select.proofs.Plans.{filter_is}
use Rattle.rq_select.proofs.parts.rowids_where.Goals as goal

pub returns-in-Ok : goal.returns-in-Ok
returns-in-Ok g c =
    let t = g.T.TableView.means c.args.table.now in
    subst (λ (p : Test). Answers (then_with (filtered p [] (rows_of t)) (λ rs. Ok (map (λ (r : Row). r.rowid) rs))) c.rowids_left.result)
    (ap passes c.in-Ok.ensures ∙ sym (filter_is c.names_are_found_once.ensures c.scope.result.now c.args.filter.now) ∙ ap (λ s. meets s c.args.filter.now) c.scope.ensures)
    c.rowids_left.ensures
