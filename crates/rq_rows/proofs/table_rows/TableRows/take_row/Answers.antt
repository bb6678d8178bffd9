use Rattle.std.proofs.Common.{ap, sym, subst, ◌∙◌, None, Some, w64, FitsSigned, arith}
use Rattle.std.proofs.lemmas.Int.{to_z-of_z}
use Rattle.rq_rows.specs.Slots.{slots_of}
use Rattle.rq_rows.specs.Staged.{Sound, staged}
use Rattle.rq_rows.proofs.Live.{slots_changed, get_slots}
use Rattle.rq_rows.proofs.Steps.{take_on, changed_to, seen_change}
use Rattle.rq_rows.proofs.table_rows.TableRows.take_row.Goals as goal

pub invariant_of-self-in-Ok : goal.invariant_of-self-in-Ok
invariant_of-self-in-Ok c =
    let fits : FitsSigned w64 c.args.key = c.ranges.key in
    let changed = simp to_z-of_z at c.in-Ok.ensures.updates.0 in
    let old = simp to_z-of_z at c.in-Ok.ensures.old in
    let pushed = simp (to_z-of_z, c.reserve.ensures.items) at c.in_ok-push-in-Ok.ensures.items in (
      omega (arith, c.self.invariant.0, c.in_ok-push-in-Ok.ensures.len, c.reserve.ensures.len, c.push.new.self.ok, c.reserve.new.self.ok, c.self.inside.log.ok),
      subst (λ ls. Sound c.self.inside.columns c.self.inside.holders.items (slots_of c.insert.new.self.entries) ls) (sym pushed)
          (take_on _ _ (slots_of c.self.inside.slots.entries) _ c.self.inside.log.items (record { key = c.args.key; old = c.in-Ok.old }) c.self.invariant.1
          (slots_changed _ _ c.args.key (Some None) changed) (old ∙ sym (get_slots c.self.inside.slots.entries c.args.key))),
    )

pub returns-in_ok-push-in-Ok-clause-ok : goal.returns-in_ok-push-in-Ok-clause-ok
returns-in_ok-push-in-Ok-clause-ok c =
    let fits : FitsSigned w64 c.args.key = c.ranges.key in
    let changed = simp to_z-of_z at c.in-Ok.ensures.updates.0 in
    let old = simp to_z-of_z at c.in-Ok.ensures.old in
    let pushed = simp (to_z-of_z, c.reserve.ensures.items) at c.in_ok-push-in-Ok.ensures.items in
    ap (staged c.self.inside.columns c.self.inside.mark (slots_of c.insert.new.self.entries)) pushed
    ∙ seen_change c.self.inside.columns c.self.inside.mark (slots_of c.self.inside.slots.entries) _ c.self.inside.log.items (record { key = c.args.key; old = c.in-Ok.old }) None c.self.invariant.0
    (slots_changed _ _ c.args.key (Some None) changed) (old ∙ sym (get_slots c.self.inside.slots.entries c.args.key))
    ∙ ap (λ s. changed_to s c.args.key None) c.self.view_is
