use Rattle.std.proofs.Common.{sym, subst}
use Rattle.rq_eval.specs.declared.resolved.ResolvedExpr.{ResolvedExpr}
use Rattle.rq_eval.specs.declared.resolved.ResolvedExpr.TheVariants as x
use Rattle.rq_select.specs.Keys.{EqualWants}
use Rattle.rq_select.proofs.Tests.{column_literal, literal_column}
use Rattle.rq_select.proofs.keys.equal_part.Goals as goal

pub returns-in-Literal-right : goal.returns-in-Literal-right
returns-in-Literal-right c =
    let i = c.in-Column.place in
    let y = c.in-Literal-right.value in
    subst (λ (a : ResolvedExpr). EqualWants a c.args.right.now i y) (sym c.in-Column.is)
    (subst (λ (b : ResolvedExpr). EqualWants (x.Column i) b i y) (sym c.in-Literal-right.is) (column_literal i y))

pub returns-in-Column-right : goal.returns-in-Column-right
returns-in-Column-right c =
    let i = c.in-Column-right.place in
    let y = c.in-Literal.value in
    subst (λ (a : ResolvedExpr). EqualWants a c.args.right.now i y) (sym c.in-Literal.is)
    (subst (λ (b : ResolvedExpr). EqualWants (x.Literal y) b i y) (sym c.in-Column-right.is) (literal_column i y))
