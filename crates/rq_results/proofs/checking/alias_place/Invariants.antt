use Rattle.std.proofs.Common.{◌≡◌, map, drop}
use Rattle.rq_results.specs.Results as results
use Rattle.rq_results.specs.Viewed.{shown}
use Rattle.rq_results.proofs.checking.alias_place.Given as goal

abbrev pub invariant-loop-i : goal.invariant-loop-i
invariant-loop-i l = results.alias_from l.i (map shown (drop l.i l.items)) l.name ≡ results.alias_place (map shown l.items) l.name
