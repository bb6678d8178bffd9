use Rattle.std.proofs.Common.{◌≡◌, ◌++◌, take, drop}
use Rattle.rq_route.specs.Target.{path_part, query_part}
use Rattle.rq_route.proofs.target.split.Given as goal

abbrev pub invariant-loop-at : goal.invariant-loop-at
invariant-loop-at l = record {
  path : path_part l.target ≡ take l.at l.target ++ path_part (drop l.at l.target);
  query : query_part l.target ≡ query_part (drop l.at l.target);
}
