use Rattle.std.proofs.Common.{sym, ap, subst, ◌∙◌}
use Rattle.rq_eval.specs.declared.resolved.ResolvedExpr.{ResolvedExpr}
use Rattle.rq_eval.specs.declared.resolved.ResolvedExpr.TheVariants as x
use Rattle.rq_select.specs.declared.table.Lookup.TheVariants as lookup
use Rattle.rq_select.specs.Keys.{Tells}
use Rattle.rq_select.proofs.Tests.{tells_left, tells_right}
use Rattle.rq_select.proofs.keys.+look_up.Goals as goal

pub returns-in-Unknown : goal.returns-in-Unknown
returns-in-Unknown g t c =
    let table = g.T.TableView.means c.args.table.now in
    let l = c.in-Binary.left in
    let r = c.in-Binary.right in
    subst (λ (e : ResolvedExpr). Tells table e c.look_up-in-Unknown.result) (sym (c.in-Binary.is ∙ ap (λ o. x.Binary o l r) c.in-And.is))
    (tells_right table l r c.look_up-in-Unknown.result (subst (λ (e : ResolvedExpr). Tells table e c.look_up-in-Unknown.result) c.get-in-Unknown.ensures c.look_up-in-Unknown.ensures))

pub returns-in-NoRow : goal.returns-in-NoRow
returns-in-NoRow g t c =
    let table = g.T.TableView.means c.args.table.now in
    let l = c.in-Binary.left in
    let r = c.in-Binary.right in
    subst (λ (e : ResolvedExpr). Tells table e lookup.NoRow) (sym (c.in-Binary.is ∙ ap (λ o. x.Binary o l r) c.in-And.is))
    (tells_left table l r lookup.NoRow (subst (λ (e : ResolvedExpr). Tells table e lookup.NoRow) c.get-in-And.ensures c.in-NoRow.ensures))

pub returns-in-Row : goal.returns-in-Row
returns-in-Row g t c =
    let table = g.T.TableView.means c.args.table.now in
    let l = c.in-Binary.left in
    let r = c.in-Binary.right in
    subst (λ (e : ResolvedExpr). Tells table e (lookup.Row c.in-Row.row)) (sym (c.in-Binary.is ∙ ap (λ o. x.Binary o l r) c.in-And.is))
    (tells_left table l r (lookup.Row c.in-Row.row) (subst (λ (e : ResolvedExpr). Tells table e (lookup.Row c.in-Row.row)) c.get-in-And.ensures c.in-Row.ensures))
