use Rattle.std.proofs.Common.{◌≡◌, ◌++◌, drop}
use Rattle.rq_meaning.specs.Lists.{each}
use Rattle.rq_tables.specs.Entries.{now_db, start_db}
use Rattle.rq_tables.specs.Running.{step_of}
use Rattle.rq_tables.proofs.lists.run_each.Given as goal

abbrev pub invariant-loop-item : goal.invariant-loop-item
invariant-loop-item l =
    let more = each (step_of l.mode) (now_db l.tables) (drop l.item-index l.items) in
    record {
      start : start_db l.tables ≡ start_db l.fn.tables;
      so_far : each (step_of l.mode) (now_db l.fn.tables) l.items ≡ (more.0, l.results ++ more.1);
    }
