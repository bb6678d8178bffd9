use Rattle.std.proofs.Common.{sym, w64, FitsSigned}
use Rattle.std.proofs.lemmas.Int.{to_z-of_z}
use Rattle.rq_select_tests.proofs.Keys.{more_held}
use Rattle.rq_select_tests.proofs.unique_table.UniqueTable.insert_held.Goals as goal

pub invariant_of-self : goal.invariant_of-self
invariant_of-self c =
    let u = c.args.self.now in
    let key_fits : FitsSigned w64 c.args.number = c.ranges.number in
    let fits : FitsSigned w64 c.args.rowid = c.ranges.rowid in
    let free = simp to_z-of_z at c.in-None.ensures.value in
    let changed = simp to_z-of_z at c.in-Ok.ensures.updates.0 in
    let added = simp to_z-of_z at c.insert-in-Ok.ensures in
    record { held = more_held u.place c.args.number c.args.rowid c.args.values u.holders c.insert.new.self u.table.rows c.insert-in-Ok.new.self.rows u.held (sym free) c.requires changed added }
