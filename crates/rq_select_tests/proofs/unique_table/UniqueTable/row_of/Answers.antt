use Rattle.std.proofs.Common.{sym}
use Rattle.rq_select_tests.specs.Naming.{name_in}
use Rattle.rq_select_tests.proofs.Keys.{held_by, not_held}
use Rattle.rq_select_tests.proofs.unique_table.UniqueTable.row_of.Goals as goal

pub returns-in-Some : goal.returns-in-Some
returns-in-Some c =
    let u = c.args.self.now in
    let t = u.table in
    held_by (name_in t.scope) t.columns t.rows t.key c.know_ordered.ensures t.keyed u.place u.holders u.held c.args.number.now c.in-Some.rowid.now c.row_at.result (sym c.in-Some.ensures.value) c.row_at.ensures

pub returns-in-None : goal.returns-in-None
returns-in-None c =
    let u = c.args.self.now in
    let t = u.table in
    not_held (name_in t.scope) t.columns t.rows t.key c.know_ordered.ensures t.keyed u.place u.holders u.held c.args.number.now (sym c.in-None.ensures.value)
