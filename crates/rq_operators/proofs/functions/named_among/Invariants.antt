use Rattle.std.proofs.Common.{◌≡◌, length, map}
use Rattle.rq_operators.specs.Functions as spec
use Rattle.rq_operators.proofs.functions.named_among.Given as goal

abbrev pub invariant-loop-functions : goal.invariant-loop-functions
invariant-loop-functions l = spec.named_among (map (λ f. (f.0.now, f.1)) l.functions) l.name ≡ spec.named_among (map (λ f. (f.0.now, f.1)) l.initial.functions) l.name

abbrev pub decreases-loop-functions : goal.decreases-loop-functions
decreases-loop-functions l = length l.functions
