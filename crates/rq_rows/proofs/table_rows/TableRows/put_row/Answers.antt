use Rattle.std.proofs.Common.{ap, sym, subst, ◌∙◌, Some, w64, FitsSigned, arith, length}
use Rattle.std.proofs.lemmas.Int.{to_z-of_z}
use Rattle.rq_rows.specs.Slots.{slots_of}
use Rattle.rq_rows.specs.Staged.{Sound, staged}
use Rattle.rq_rows.specs.Covering.{Free, HasKey}
use Rattle.rq_rows.proofs.Live.{slots_changed, get_slots}
use Rattle.rq_rows.proofs.Steps.{held_on, put_on, changed_to, seen_change}
use Rattle.rq_rows.proofs.table_rows.TableRows.put_row.Goals as goal

pub invariant_of-self-in-Err-hold_all : goal.invariant_of-self-in-Err-hold_all
invariant_of-self-in-Err-hold_all c =
    let fits : FitsSigned w64 c.args.key = c.ranges.key in
    let points = simp (to_z-of_z, c.as_slice.ensures, c.as_slice-2.ensures) at c.in-Err-hold_all.ensures.err in
    let free = subst (λ s. Free s.columns s.now c.args.row) (sym c.self.view_is) c.requires.free in (
      omega (arith, c.self.invariant.0, c.make_room.ensures.len, c.make_room.new.log.ok, c.self.inside.log.ok),
      subst (λ ls. Sound c.self.inside.columns c.hold_all.new.holders.items (slots_of c.self.inside.slots.entries) ls) (sym c.make_room.ensures.items)
          (held_on points.0 _ c.self.inside.holders.items _ _ _ c.args.row c.args.key c.self.invariant.1 (omega (arith, c.hold_all.new.holders.ok, c.in-Err-hold_all.ensures.len, c.self.inside.holders.ok, c.self.invariant.1.matched)) points.1 free),
    )

pub invariant_of-self-in-Err-insert : goal.invariant_of-self-in-Err-insert
invariant_of-self-in-Err-insert c =
    let fits : FitsSigned w64 c.args.key = c.ranges.key in
    let points = simp (to_z-of_z, c.as_slice.ensures, c.as_slice-2.ensures) at c.in-Ok-hold_all.ensures.ok in
    let free = subst (λ s. Free s.columns s.now c.args.row) (sym c.self.view_is) c.requires.free in (
      omega (arith, c.self.invariant.0, c.make_room.ensures.len, c.make_room.new.log.ok, c.self.inside.log.ok),
      subst (λ es. Sound c.self.inside.columns c.hold_all.new.holders.items (slots_of es) c.make_room.new.log.items) (sym c.in-Err-insert.ensures.err)
          (subst (λ ls. Sound c.self.inside.columns c.hold_all.new.holders.items (slots_of c.self.inside.slots.entries) ls) (sym c.make_room.ensures.items)
          (held_on (length c.self.inside.columns) _ c.self.inside.holders.items _ _ _ c.args.row c.args.key c.self.invariant.1 (omega (arith, c.hold_all.new.holders.ok, c.in-Ok-hold_all.ensures.len, c.self.inside.holders.ok, c.self.invariant.1.matched)) points free)),
    )

pub invariant_of-self-in-Ok-insert : goal.invariant_of-self-in-Ok-insert
invariant_of-self-in-Ok-insert c =
    let fits : FitsSigned w64 c.args.key = c.ranges.key in
    let points = simp (to_z-of_z, c.as_slice.ensures, c.as_slice-2.ensures) at c.in-Ok-hold_all.ensures.ok in
    let free = subst (λ s. Free s.columns s.now c.args.row) (sym c.self.view_is) c.requires.free in
    let key = subst (λ s. HasKey s.columns c.args.key c.args.row) (sym c.self.view_is) c.requires.key in
    let changed = simp to_z-of_z at c.in-Ok-insert.ensures.updates.0 in
    let old = simp to_z-of_z at c.in-Ok-insert.ensures.old in
    let pushed = simp (to_z-of_z, c.make_room.ensures.items) at c.in_ok-push-in-Ok-insert.ensures.items in (
      omega (arith, c.self.invariant.0, c.in_ok-push-in-Ok-insert.ensures.len, c.make_room.ensures.len, c.push.new.self.ok, c.make_room.new.log.ok, c.self.inside.log.ok),
      subst (λ ls. Sound c.self.inside.columns c.hold_all.new.holders.items (slots_of c.insert.new.self.entries) ls) (sym pushed)
          (put_on _ c.self.inside.holders.items _ (slots_of c.self.inside.slots.entries) _ c.self.inside.log.items c.args.row (record { key = c.args.key; old = c.in-Ok-insert.old }) c.self.invariant.1
          (omega (arith, c.hold_all.new.holders.ok, c.in-Ok-hold_all.ensures.len, c.self.inside.holders.ok, c.self.invariant.1.matched)) points free key
          (slots_changed _ _ c.args.key (Some (Some c.args.row)) changed) (old ∙ sym (get_slots c.self.inside.slots.entries c.args.key))),
    )

pub returns-in_ok-push-in-Ok-insert-clause-ok : goal.returns-in_ok-push-in-Ok-insert-clause-ok
returns-in_ok-push-in-Ok-insert-clause-ok c =
    let fits : FitsSigned w64 c.args.key = c.ranges.key in
    let changed = simp to_z-of_z at c.in-Ok-insert.ensures.updates.0 in
    let old = simp to_z-of_z at c.in-Ok-insert.ensures.old in
    let pushed = simp (to_z-of_z, c.make_room.ensures.items) at c.in_ok-push-in-Ok-insert.ensures.items in
    ap (staged c.self.inside.columns c.self.inside.mark (slots_of c.insert.new.self.entries)) pushed
    ∙ seen_change c.self.inside.columns c.self.inside.mark (slots_of c.self.inside.slots.entries) _ c.self.inside.log.items (record { key = c.args.key; old = c.in-Ok-insert.old }) (Some c.args.row) c.self.invariant.0
    (slots_changed _ _ c.args.key (Some (Some c.args.row)) changed) (old ∙ sym (get_slots c.self.inside.slots.entries c.args.key))
    ∙ ap (λ s. changed_to s c.args.key (Some c.args.row)) c.self.view_is
