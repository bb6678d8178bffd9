use Rattle.std.proofs.Common.{◌≡◌, ◌++◌, drop}
use Rattle.rq_meaning.specs.Lists.{up_to_error}
use Rattle.rq_tables.specs.Entries.{now_db, Rest}
use Rattle.rq_tables.specs.Running.{step_of}
use Rattle.rq_tables.proofs.lists.run_to_error.Given as goal

abbrev pub invariant-loop-item : goal.invariant-loop-item
invariant-loop-item l =
    let more = up_to_error (step_of l.mode) (now_db l.tables) (drop l.item-index l.items) in
    record {
      rest : Rest l.fn.tables l.tables;
      so_far : up_to_error (step_of l.mode) (now_db l.fn.tables) l.items ≡ (more.0, l.results ++ more.1);
    }
