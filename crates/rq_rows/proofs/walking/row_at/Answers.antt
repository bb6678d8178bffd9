use Rattle.std.proofs.Common.{ap, sym, ◌∙◌, Some, w64, FitsSigned}
use Rattle.std.proofs.lemmas.Int.{to_z-of_z}
use Rattle.rq_rows.specs.Slots.{slots_of, joined}
use Rattle.rq_rows.proofs.Live.{get_live, get_slots}
use Rattle.rq_rows.proofs.walking.row_at.Goals as goal

pub returns-in-Some-slot : goal.returns-in-Some-slot
returns-in-Some-slot c =
    let fits : FitsSigned w64 c.args.key = c.ranges.key in
    let found = simp to_z-of_z at c.in-Some.ensures.value in
    ap Some c.as_slice.ensures ∙ sym c.in-Some-slot.is ∙ ap joined (found ∙ sym (get_slots c.args.slots.now.entries c.args.key)) ∙ sym (get_live (slots_of c.args.slots.now.entries) c.args.key)

pub returns-in-None-slot : goal.returns-in-None-slot
returns-in-None-slot c =
    let fits : FitsSigned w64 c.args.key = c.ranges.key in
    let found = simp to_z-of_z at c.in-Some.ensures.value in
    sym c.in-None-slot.is ∙ ap joined (found ∙ sym (get_slots c.args.slots.now.entries c.args.key)) ∙ sym (get_live (slots_of c.args.slots.now.entries) c.args.key)

pub returns-in-None : goal.returns-in-None
returns-in-None c =
    let fits : FitsSigned w64 c.args.key = c.ranges.key in
    let found = simp to_z-of_z at c.in-None.ensures.value in
    ap joined (found ∙ sym (get_slots c.args.slots.now.entries c.args.key)) ∙ sym (get_live (slots_of c.args.slots.now.entries) c.args.key)
