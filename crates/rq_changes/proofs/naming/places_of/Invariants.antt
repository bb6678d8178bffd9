use Rattle.std.proofs.Common.{◌≡◌, take, drop, Ok}
use Rattle.rq_results.specs.Checks.{first}
use Rattle.rq_select.specs.Select.{unless}
use Rattle.rq_meaning.specs.Checks.{places_of, name_checks}
use Rattle.rq_changes.specs.Staged.{now_of}
use Rattle.rq_changes.specs.Stepping.{listed}
use Rattle.rq_changes.proofs.naming.places_of.Given as goal

abbrev pub invariant-loop-name : goal.invariant-loop-name
invariant-loop-name l = record {
  places : l.places ≡ places_of (now_of l.table) (take l.name-index l.names);
  so_far : unless (first (name_checks (now_of l.table) (take l.name-index l.names) (drop l.name-index l.names))) (Ok (places_of (now_of l.table) l.names)) ≡ listed (now_of l.table) l.names;
}
