use Rattle.std.proofs.Common.{◌≡◌, drop}
use Rattle.rq_eval.specs.Names as spec
use Rattle.rq_eval.proofs.naming.find_in.Given as goal

abbrev pub invariant-loop-i : goal.invariant-loop-i
invariant-loop-i l = spec.place_from l.i (drop l.i l.columns) l.name ≡ spec.place_from 0 l.columns l.name
