use Rattle.std.proofs.Common.{◌≡◌, map, length, drop}
use Rattle.std.specs.Option.{option_copied}
use Rattle.rq_results.specs.Checks.{first}
use Rattle.rq_meaning.specs.Checks.{count_check}
use Rattle.rq_changes.specs.Staged.{now_of}
use Rattle.rq_changes.proofs.inserting.check_counts.Given as goal

abbrev pub invariant-loop-row : goal.invariant-loop-row
invariant-loop-row l = first (map (λ xs. count_check (now_of l.table) (option_copied l.names) (length xs)) (drop l.row-index l.rows)) ≡ first (map (λ xs. count_check (now_of l.table) (option_copied l.names) (length xs)) l.rows)
