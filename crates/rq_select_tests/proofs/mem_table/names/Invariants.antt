use Rattle.std.proofs.Common.{◌≡◌, ◌++◌, drop}
use Rattle.rq_select_tests.specs.Naming.{names_of}
use Rattle.rq_select_tests.proofs.mem_table.names.Given as goal

abbrev pub invariant-loop-column : goal.invariant-loop-column
invariant-loop-column l = l.names ++ names_of (drop l.column-index l.columns) ≡ names_of l.columns
