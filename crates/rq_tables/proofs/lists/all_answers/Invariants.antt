use Rattle.std.proofs.Common.{◌≡◌, ◌++◌, map, drop}
use Rattle.rq_meaning.specs.Lists.{answers}
use Rattle.rq_tables.specs.Entries.{now_db}
use Rattle.rq_tables.proofs.lists.all_answers.Given as goal

abbrev pub invariant-loop-items : goal.invariant-loop-items
invariant-loop-items l = l.all ++ map (answers (now_db l.tables)) (drop l.items-index l.reads) ≡ map (answers (now_db l.tables)) l.reads
