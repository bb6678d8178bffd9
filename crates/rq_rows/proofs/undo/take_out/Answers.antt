use Rattle.std.proofs.Common.{w64, FitsSigned, None}
use Rattle.std.proofs.lemmas.Int.{to_z-of_z}
use Rattle.rq_rows.proofs.Live.{slots_changed}
use Rattle.rq_rows.proofs.undo.take_out.Goals as goal

pub returns : goal.returns
returns c =
    let fits : FitsSigned w64 c.args.key = c.ranges.key in
    let changed = simp to_z-of_z at c.remove.ensures.updates.0 in
    slots_changed _ _ c.args.key None changed
