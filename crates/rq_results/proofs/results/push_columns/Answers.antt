use Rattle.std.proofs.Common.{ap, sym, ◌∙◌, [], ◌∷◌, ◌++◌, map, append_assoc}
use Rattle.std.proofs.lemmas.List.{map-append}
use Rattle.rq_results.specs.declared.results.Shown.TheVariants as s
use Rattle.rq_results.specs.Results.{columns_before, column}
use Rattle.rq_results.specs.Viewed.{shown}
use Rattle.rq_results.proofs.Lists.{columns_next}
use Rattle.rq_results.proofs.results.push_columns.Goals as goal

pub loop-i-preserved : goal.loop-i-preserved
loop-i-preserved c =
    let i = c.loop-i.i in
    let first = map shown c.args.into.now.items in
    ap (map shown) c.in-Ok.ensures
    ∙ map-append shown c.loop-i.into.items (s.Column i ∷ [])
    ∙ ap (λ z. z ++ column i ∷ []) c.loop-i.invariant
    ∙ append_assoc first (columns_before i) (column i ∷ [])
    ∙ ap (λ z. first ++ z) (sym (columns_next i))
