use Rattle.std.proofs.Common.{◌≡◌, ◌++◌, map, drop}
use Rattle.rq_eval.specs.Names.{Row, row_of}
use Rattle.rq_select.proofs.parts.rowids.Given as goal

abbrev pub invariant-loop-row : goal.invariant-loop-row
invariant-loop-row l = l.all ++ map (λ (r : Row). r.rowid) (map row_of (drop l.row-index l.rows)) ≡ map (λ (r : Row). r.rowid) (map row_of l.rows)
