use Rattle.std.proofs.Common.{sym}
use Rattle.rq_select_tests.specs.Naming.{name_in}
use Rattle.rq_select_tests.proofs.Keys.{finds_row, finds_none}
use Rattle.rq_select_tests.proofs.mem_table.MemTable.row_at.Goals as goal

pub returns-in-Some : goal.returns-in-Some
returns-in-Some c =
    let t = c.args.self.now in
    finds_row (name_in t.scope) t.columns t.rows t.key c.len-count.ensures.ordered t.keyed c.args.rowid.now c.in-Some.values.now c.row_of.result (sym c.in-Some.ensures.value) c.row_of.ensures

pub returns-in-None : goal.returns-in-None
returns-in-None c =
    let t = c.args.self.now in
    finds_none (name_in t.scope) t.columns t.rows t.key c.len-count.ensures.ordered t.keyed c.args.rowid.now (sym c.in-None.ensures.value)
