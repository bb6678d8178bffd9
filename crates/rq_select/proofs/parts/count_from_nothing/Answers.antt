use Rattle.std.proofs.Common.{ap, subst, ◌∙◌, map, List, length, Ok}
use Rattle.rq_eval.specs.Outcome.{Answers}
use Rattle.rq_results.specs.Results.{Shown, no_source, spread}
use Rattle.rq_results.specs.Checks.{names_check}
use Rattle.rq_results.specs.Viewed.{shown}
use Rattle.rq_select.specs.Parts.{count_in}
use Rattle.rq_select.proofs.parts.count_from_nothing.Goals as goal

pub returns-in-Ok : goal.returns-in-Ok
returns-in-Ok c =
    subst (λ (ws : List Shown). Answers (count_in c.args.stmt.now no_source ws) c.count_in.result)
    (ap (map shown) c.as_slice-in-Ok.ensures.value ∙ c.in-Ok.ensures ∙ ap (spread 0) c.as_slice.ensures)
    c.count_in.ensures
