use Rattle.std.proofs.Common.{◌≡◌, ◌++◌, drop}
use Rattle.rq_meaning.specs.Lists.{answers}
use Rattle.rq_tables.specs.Entries.{now_db}
use Rattle.rq_tables.proofs.lists.answers.Given as goal

abbrev pub invariant-loop-item : goal.invariant-loop-item
invariant-loop-item l = l.results ++ answers (now_db l.tables) (drop l.item-index l.items) ≡ answers (now_db l.tables) l.items
