-- What a table in memory stands for.
use Rattle.std.specs.FinMap as fin
use Rattle.rq_select_tests.specs.declared.mem_table.MemTable.{MemTable}
use Rattle.rq_select_tests.specs.Naming.{name_in}
use Rattle.rq_results.specs.Table.{Table}

abbrev pub table : MemTable → Table
table t = record { name = name_in t.scope; columns = t.columns; rows = fin.from_sorted t.rows.entries }
