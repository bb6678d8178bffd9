use Rattle.std.proofs.Common.{◌≡◌, ◌++◌, map, take}
use Rattle.rq_eval.specs.Names.{row_of}
use Rattle.rq_results.specs.Table.{as_row}
use Rattle.rq_select_tests.proofs.mem_table.MemTable.first_rows.Given as goal

abbrev pub invariant-loop-rowid : goal.invariant-loop-rowid
invariant-loop-rowid l = map row_of l.rows.items ++ take l.left (map as_row l.rowid-iterator) ≡ take l.most (map as_row l.self.rows.entries)
