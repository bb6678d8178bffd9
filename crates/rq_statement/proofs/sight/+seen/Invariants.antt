use Rattle.std.proofs.Common.{◌≡◌, drop}
use Rattle.std.specs.Prelude.{map}
use Rattle.rq_statement.specs.Sights as spec
use Rattle.rq_statement.proofs.sight.+seen.Given as goal

-- what was seen, and then the rest, is the whole
abbrev pub invariant-list_sight-loop-expr : goal.invariant-list_sight-loop-expr
invariant-list_sight-loop-expr l = spec.both l.seen (spec.list_sight (map spec.sight (drop l.expr-index l.list))) ≡ spec.list_sight (map spec.sight l.list)
