use Rattle.std.proofs.Common.{ap, subst, ◌∙◌, map, List}
use Rattle.rq_eval.specs.Outcome.{Answers}
use Rattle.rq_results.specs.Results.{Shown, no_source, spread}
use Rattle.rq_results.specs.Viewed.{shown}
use Rattle.rq_select.specs.Select as spec
use Rattle.rq_select.proofs.parts.rows_from_nothing.Goals as goal

pub returns-in-Ok : goal.returns-in-Ok
returns-in-Ok c =
    subst (λ (ws : List Shown). Answers (spec.rows_selected c.args.stmt.now no_source.scope no_source.rows ws) c.rows_of_nothing.result)
    (ap (map shown) c.as_slice-in-Ok.ensures.value ∙ c.in-Ok.ensures ∙ ap (spread 0) c.as_slice.ensures)
    c.rows_of_nothing.ensures
