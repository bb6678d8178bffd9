use Rattle.std.proofs.Common.{ap, ◌∙◌, None, w64, FitsSigned}
use Rattle.std.proofs.lemmas.Int.{to_z-of_z}
use Rattle.rq_rows.specs.Slots.{slots_of, live}
use Rattle.rq_rows.proofs.Live.{swept, slots_changed, get_slots}
use Rattle.rq_rows.proofs.sweeping.sweep.Goals as goal

pub returns-in-Some-None : goal.returns-in-Some-None
returns-in-Some-None c =
    let fits : FitsSigned w64 c.args.key = c.ranges.key in
    let changed = simp to_z-of_z at c.remove.ensures.updates.0 in
    let value = simp to_z-of_z at c.in-Some-None.ensures.value in
    ap live (slots_changed _ _ c.args.key None changed)
    ∙ swept (slots_of c.args.slots.now.entries) c.args.key (get_slots c.args.slots.now.entries c.args.key ∙ cc (value, c.in-Some-None.field-0-is))
