use Rattle.std.proofs.Common.{ap, sym, subst, ◌∙◌, length, w64, FitsSigned, Some, None, rules, arith}
use Rattle.std.proofs.lemmas.Int.{to_z-of_z}
use Rattle.rq_rows.specs.Slots.{slots_of, put_slot, live}
use Rattle.rq_rows.specs.Covering.{Covers, Valid}
use Rattle.rq_rows.proofs.Live.{live_put}
use Rattle.rq_rows.proofs.Covered.{covers_in, covers_out, below_more}
use Rattle.rq_rows.proofs.undo.undo_one.Goals as goal

pub returns-in-None-clause-covers : goal.returns-in-None-clause-covers
returns-in-None-clause-covers c =
    let fits : FitsSigned w64 c.args.change.key = search rules in
    let changed = simp to_z-of_z at c.take_out.ensures in
    subst (Covers c.args.columns.now c.args.holders.now.items) (sym (ap live changed ∙ live_put (slots_of c.args.slots.now.entries) c.args.change.key None))
    (covers_out c.args.columns.now c.args.holders.now.items (live (slots_of c.args.slots.now.entries)) c.args.change.key c.requires.covers)

pub returns-in-None-content-clause-covers : goal.returns-in-None-content-clause-covers
returns-in-None-content-clause-covers c =
    let fits : FitsSigned w64 c.args.change.key = search rules in
    let changed = simp to_z-of_z at c.refill.ensures in
    subst (Covers c.args.columns.now c.args.holders.now.items) (sym (ap live changed ∙ live_put (slots_of c.args.slots.now.entries) c.args.change.key (Some None)))
    (covers_out c.args.columns.now c.args.holders.now.items (live (slots_of c.args.slots.now.entries)) c.args.change.key c.requires.covers)

pub returns-in-Some-content-clause-covers : goal.returns-in-Some-content-clause-covers
returns-in-Some-content-clause-covers c =
    let fits : FitsSigned w64 c.args.change.key = search rules in
    let changed = simp to_z-of_z at c.refill-in-Some-content.ensures in
    let points = simp to_z-of_z at c.point_all.ensures.points in
    let s = slots_of c.args.slots.now.entries in
    let shown = live_put s c.args.change.key (Some (Some c.in-Some-content.row)) in
    let valid = subst (λ o. Valid c.args.columns.now (live (put_slot s c.args.change.key o))) (c.in-Some.is ∙ ap Some c.in-Some-content.is) c.requires.valid in
    subst (Covers c.args.columns.now c.point_all.new.holders.items) (sym (ap live changed ∙ shown))
    (covers_in c.args.columns.now c.args.holders.now.items c.point_all.new.holders.items (live s) c.args.change.key c.in-Some-content.row c.requires.covers (subst (Valid c.args.columns.now) shown valid) (simp c.as_slice.ensures at points))

pub returns-in-Some-content-clause-more : goal.returns-in-Some-content-clause-more
returns-in-Some-content-clause-more c =
    below_more (length c.args.columns.now) c.args.columns.now c.args.holders.now.items c.point_all.new.holders.items c.as_slice.result.now _ (omega (arith, c.point_all.new.holders.ok, c.point_all.ensures.len, c.requires.len)) c.point_all.ensures.points
