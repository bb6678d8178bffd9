use Rattle.std.proofs.Common.{◌≡◌}
use Rattle.std.specs.Prelude.{vec_len}
use Rattle.rq_rows.specs.Covering.{PointsBelow}
use Rattle.rq_rows.proofs.undo.hold_all.Given as goal

abbrev pub invariant-loop-i : goal.invariant-loop-i
invariant-loop-i l = record {
  len : vec_len l.holders ≡ vec_len l.initial.holders;
  points : PointsBelow l.i l.columns l.row l.key l.initial.holders.items l.holders.items;
}
