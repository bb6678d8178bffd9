use Rattle.std.proofs.lemmas.Map.Iter.{rest_more, rest_all}
use Rattle.std.specs.Map.Iter.{deref_pair}
use Rattle.std.proofs.Common.{map}
use Rattle.rq_eval.specs.Names.{row_of}
use Rattle.rq_select_tests.proofs.Walking.{next_row, stop_row, end_row}
use Rattle.rq_select_tests.proofs.mem_table.MemTable.first_rows.Goals as goal

pub returns-then-left-eq0 : goal.returns-then-left-eq0
returns-then-left-eq0 c = stop_row c.loop-rowid.left c.if-left-eq0.true (map row_of c.loop-rowid.rows.items) _ _ c.loop-rowid.invariant

pub loop-rowid-preserved : goal.loop-rowid-preserved
loop-rowid-preserved c =
    let is = rest_more deref_pair c.loop-rowid.rowid-iterator c.next.new.self c.next.result (c.in-Some.rowid, c.in-Some.values) c.in-Some.is c.next.ensures.steps in
    next_row c.loop-rowid.rows.items c.row_of.result c.loop-rowid.left (c.in-Some.rowid.now, c.in-Some.values.now) c.loop-rowid.rowid-iterator c.next.new.self _ c.if-left-eq0.false is c.row_of.ensures c.loop-rowid.invariant c.push.new.self.items c.in_ok-push.ensures.items

pub returns : goal.returns
returns c =
    let is = rest_all deref_pair c.loop-rowid.rowid-iterator c.next.new.self c.next.result c.in-None.is c.next.ensures.steps in
    end_row c.loop-rowid.left (map row_of c.loop-rowid.rows.items) c.loop-rowid.rowid-iterator _ is c.loop-rowid.invariant
