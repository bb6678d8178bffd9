use Rattle.std.proofs.Common.{w64, FitsSigned, arith}
use Rattle.std.proofs.lemmas.Int.{to_z-of_z}
use Rattle.rq_rows.proofs.Covered.{points_next, points_stop, at_get}
use Rattle.rq_rows.proofs.undo.hold_all.Goals as goal

pub loop-i-preserved : goal.loop-i-preserved
loop-i-preserved c =
    let fits : FitsSigned w64 c.args.key = c.ranges.key in
    let at_c = at_get c.args.columns.now c.loop-i.i c.index-columns-i.result c.loop-i-test.true c.index-columns-i.is in
    let at_h = at_get c.loop-i.holders.items c.loop-i.i c.index_mut.result.now (omega (arith, c.loop-i-test.true, c.loop-i.invariant.len, c.requires, c.loop-i.holders.ok)) c.index_mut.ensures.value in
    record {
      len = c.loop-i.invariant.len;
      points = points_next c.loop-i.i c.args.columns.now c.args.holders.now.items c.loop-i.holders.items c.args.row.now _ c.index-columns-i.result c.index_mut.result.now c.hold_one.new.holders c.loop-i.invariant.points at_c at_h c.in-Ok.ensures.ok;
    }

pub returns-in-Err-clause-err : goal.returns-in-Err-clause-err
returns-in-Err-clause-err c =
    let fits : FitsSigned w64 c.args.key = c.ranges.key in
    let points = simp to_z-of_z at c.loop-i.invariant.points in
    let at_h = at_get c.loop-i.holders.items c.loop-i.i c.index_mut.result.now (omega (arith, c.loop-i-test.true, c.loop-i.invariant.len, c.requires, c.loop-i.holders.ok)) c.index_mut.ensures.value in
    (c.loop-i.i, points_stop c.loop-i.i c.args.columns.now c.args.holders.now.items c.loop-i.holders.items c.args.row.now c.args.key c.index_mut.result.now c.hold_one.new.holders points at_h c.in-Err.ensures.err)
