use Rattle.std.proofs.Common.{◌≡◌, take, drop, Ok}
use Rattle.rq_results.specs.Checks.{first}
use Rattle.rq_select.specs.Select.{unless}
use Rattle.rq_meaning.specs.Checks.{places_of, set_checks}
use Rattle.rq_changes.specs.Staged.{now_of}
use Rattle.rq_changes.specs.Stepping.{set_names, sets_listed}
use Rattle.rq_changes.proofs.updating.places_of_sets.Given as goal

abbrev pub invariant-loop-set : goal.invariant-loop-set
invariant-loop-set l = record {
  places : l.places ≡ places_of (now_of l.table) (set_names (take l.set-index l.sets));
  so_far : unless (first (set_checks (now_of l.table) (set_names (take l.set-index l.sets)) (drop l.set-index l.sets))) (Ok (places_of (now_of l.table) (set_names l.sets))) ≡ sets_listed (now_of l.table) l.sets;
}
