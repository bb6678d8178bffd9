use Rattle.std.proofs.Common.{ap, sym, ◌∙◌, w64, FitsSigned, rules}
use Rattle.std.proofs.lemmas.Int.{to_z-of_z}
use Rattle.rq_rows.specs.Rows.{largest}
use Rattle.rq_rows.specs.Slots.{shown}
use Rattle.rq_rows.proofs.Shown.{walk_live}
use Rattle.rq_rows.proofs.Largest.{here_largest, not_here}
use Rattle.rq_rows.proofs.walking.largest.Goals as goal

pub loop-key-init : goal.loop-key-init
loop-key-init c = record {
  can = tt;
  finite = tt;
  rest = ap (λ it. largest (shown it.iter)) (c.into_iter-key-iterator.ensures.into_iter_gives) ∙ ap (λ it. largest (shown it)) (c.rev-key-items.ensures.source ∙ c.iter.ensures.rest)
      ∙ ap largest (sym (walk_live c.args.slots.now.entries c.iter.ensures.ordered));
}

pub returns-then-is_some : goal.returns-then-is_some
returns-then-is_some c =
    let fits : FitsSigned w64 c.in-Some.key.now = search rules in
    simp to_z-of_z (here_largest c.loop-key.key-iterator.iter c.next.new.self.iter c.in-Some.key.now c.in-Some.slot.now c.in-Some.ensures.steps (sym c.is_some.ensures ∙ c.if-is_some.true) ∙ c.loop-key.invariant.rest)

pub loop-key-preserved : goal.loop-key-preserved
loop-key-preserved c = record {
  can = tt;
  finite = tt;
  rest = ap largest (not_here c.loop-key.key-iterator.iter c.next.new.self.iter c.in-Some.key.now c.in-Some.slot.now c.in-Some.ensures.steps (sym c.is_some.ensures ∙ c.if-is_some.false)) ∙ c.loop-key.invariant.rest;
}
