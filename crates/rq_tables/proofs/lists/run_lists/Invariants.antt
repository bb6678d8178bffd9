use Rattle.std.proofs.Common.{◌≡◌, drop}
use Rattle.rq_meaning.specs.Lists.{after_lists}
use Rattle.rq_tables.specs.Entries.{now_db, start_db}
use Rattle.rq_tables.proofs.lists.run_lists.Given as goal

abbrev pub invariant-loop-list : goal.invariant-loop-list
invariant-loop-list l = record {
  start : start_db l.tables ≡ start_db l.fn.tables;
  so_far : after_lists (now_db l.fn.tables) l.lists ≡ after_lists (now_db l.tables) (drop l.list-index l.lists);
}
