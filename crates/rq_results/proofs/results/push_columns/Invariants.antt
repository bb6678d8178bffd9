use Rattle.std.proofs.Common.{◌≡◌, ◌++◌, map}
use Rattle.rq_results.specs.Results as spec
use Rattle.rq_results.specs.Viewed.{shown}
use Rattle.rq_results.proofs.results.push_columns.Given as goal

abbrev pub invariant-loop-i : goal.invariant-loop-i
invariant-loop-i l = map shown l.into.items ≡ map shown l.initial.into.items ++ spec.columns_before l.i
