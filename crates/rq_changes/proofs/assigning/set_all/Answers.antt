use Rattle.std.proofs.Common.{sym, ◌∙◌, arith}
use Rattle.std.proofs.lemmas.List.{nil_from_length}
use Rattle.rq_changes.proofs.Judged.{all_set_end}
use Rattle.rq_changes.proofs.assigning.set_all.Goals as goal

pub returns : goal.returns
returns c =
    let rest = c.loop-value.value-iterator.rest in
    sym (all_set_end c.loop-value.left.now rest.items c.loop-value.row.items (nil_from_length rest.items (omega (arith, c.in-None.ensures.steps.0, rest.ok)))) ∙ c.loop-value.invariant
