use Rattle.std.proofs.Common.{◌≡◌, ℕ, List, map, drop}
use Rattle.rq_grammar.specs.declared.expr.Expr.{Expr}
use Rattle.rq_results.specs.declared.checking.Allowed.TheVariants as allowed
use Rattle.rq_results.specs.Checks.{first, calls_in}
use Rattle.rq_changes.proofs.updating.check_calls_in_sets.Given as goal

abbrev pub invariant-loop-set : goal.invariant-loop-set
invariant-loop-set l = first (map (λ (s : List ℕ × Expr). calls_in allowed.Columns s.1) (drop l.set-index l.sets)) ≡ first (map (λ (s : List ℕ × Expr). calls_in allowed.Columns s.1) l.sets)
