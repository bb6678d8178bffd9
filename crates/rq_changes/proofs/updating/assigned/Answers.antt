use Rattle.std.proofs.Common.{ap, sym, ◌∙◌, refl, length, w64, FitsSigned}
use Rattle.std.specs.FinMap as fin
use Rattle.std.specs.Option.{option_copied}
use Rattle.std.proofs.lemmas.Int.{to_z-of_z}
use Rattle.rq_changes.specs.Staged.{now_of}
use Rattle.rq_changes.proofs.Inserted.{length_all_set}
use Rattle.rq_changes.proofs.Updated.{assigned_fails, length_assigned}
use Rattle.rq_changes.proofs.updating.assigned.Goals as goal

pub returns-in-Err-clause-assigned : goal.returns-in-Err-clause-assigned
returns-in-Err-clause-assigned c =
    let fits : FitsSigned w64 c.args.key = c.ranges.key in
    let t = now_of c.args.table.now in
    let row = simp to_z-of_z at (sym c.get.ensures.row ∙ ap option_copied c.in-Some.is) in
    assigned_fails t c.args.places.now c.args.exprs.now c.args.key (fin.get t.rows c.args.key) c.in-Some.old.now _ c.in-Err.e row (simp to_z-of_z refl) c.in-Err.ensures

pub returns-in-Ok-copied_row-clause-count : goal.returns-in-Ok-copied_row-clause-count
returns-in-Ok-copied_row-clause-count c =
    let cs = c.args.table.now.rows.columns in
    ap length (c.from_vec.ensures ∙ c.set_all.ensures)
    ∙ length_all_set c.args.places.now c.in-Ok.values c.in-Ok-copied_row.row.items
    ∙ ap length c.in-Ok-copied_row.ensures
    ∙ length_assigned cs _ c.in-Some.old.now c.in-Some.ensures.count
