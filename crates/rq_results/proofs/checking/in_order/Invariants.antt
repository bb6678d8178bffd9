use Rattle.std.proofs.Common.{◌≡◌, map, drop}
use Rattle.rq_results.specs.Checks as spec
use Rattle.rq_results.specs.Viewed.{shown, look_for}
use Rattle.rq_results.proofs.checking.in_order.Given as goal

abbrev pub invariant-loop-term : goal.invariant-loop-term
invariant-loop-term l =
    spec.first (map (spec.term_check (look_for l.look) (map shown l.items)) (drop l.term-index l.terms))
    ≡ spec.first (map (spec.term_check (look_for l.look) (map shown l.items)) l.terms)
