use Rattle.std.proofs.Common.{arith, subst, length, take, List, ◌<◌, ◌∙◌}
use Rattle.std.proofs.lemmas.List.{length-map}
use Rattle.rq_eval.specs.Names.{Row, row_of}
use Rattle.rq_eval.specs.Outcome.{Answers}
use Rattle.rq_results.specs.Table.{rows_of}
use Rattle.rq_select.specs.Planned as planned
use Rattle.rq_select.proofs.FirstRows.{all_came}
use Rattle.rq_select.proofs.selecting.shown_of_first.Goals as goal

pub returns-then-len-most : goal.returns-then-len-most
returns-then-len-most g c =
    let t = g.T.TableView.means c.args.table.now in
    let fewer : length (take c.args.most (rows_of t)) < c.args.most = subst (λ (rs : List Row). length rs < c.args.most) c.in-Ok.ensures (omega (arith, length-map c.in-Ok.rows.items row_of, c.len.ensures, c.if-len-most.true)) in
    subst (λ (rs : List Row). Answers (planned.rows_planned c.args.plan.now rs) c.rows_planned.result) (c.in-Ok.ensures ∙ all_came c.args.most (rows_of t) fewer) (rw c.as_slice.ensures.value at c.rows_planned.ensures)
