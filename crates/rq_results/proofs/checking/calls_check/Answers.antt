use Rattle.std.proofs.Common.{ap, ◌∙◌, map}
use Rattle.rq_results.specs.declared.checking.Allowed.{Allowed}
use Rattle.rq_results.specs.declared.checking.Allowed.TheVariants.{Columns}
use Rattle.rq_results.specs.Checks.{Check, whole_check, calls_in, column_allowed, in_results}
use Rattle.rq_results.specs.Viewed.{shown}
use Rattle.rq_results.proofs.checking.calls_check.Goals as goal

pub returns : goal.returns
returns c =
    let ws = map shown c.args.items.now in
    let q = c.args.stmt.now in
    let r = c.allowed_in_results-results.result in
    let o = c.allowed_in_order.result in
    c.in_statement.ensures
    ∙ ap (λ (z : Check). whole_check z (calls_in r) (calls_in Columns) (calls_in o) (calls_in Columns) ws q) c.column_allowed.ensures
    ∙ ap (λ (a : Allowed). whole_check (column_allowed a) (calls_in a) (calls_in Columns) (calls_in o) (calls_in Columns) ws q) c.allowed_in_results-results.ensures
    ∙ ap (λ (a : Allowed). whole_check (column_allowed (in_results c.args.over_all)) (calls_in (in_results c.args.over_all)) (calls_in Columns) (calls_in a) (calls_in Columns) ws q) c.allowed_in_order.ensures
